pub mod Load
pub mod Loading
pub mod Passed
