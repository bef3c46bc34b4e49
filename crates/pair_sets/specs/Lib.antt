pub mod Room
pub mod inside
pub mod Owned
pub mod Sources
pub mod Tested
