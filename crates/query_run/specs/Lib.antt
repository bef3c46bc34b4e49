pub mod Fault
pub mod KeptLine
pub mod Lines
