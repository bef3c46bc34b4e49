pub mod Counted
pub mod Orders
