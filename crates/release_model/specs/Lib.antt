pub mod Groups
pub mod Pairs
pub mod Release
