pub mod Block
pub mod Blocks
pub mod Group
pub mod PartDigit
pub mod Product
