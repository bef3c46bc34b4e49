pub mod Hierarchy
pub mod inside
pub mod ParentsFirst
