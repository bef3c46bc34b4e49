pub mod Folders
pub mod inside
pub mod NamesOnce
pub mod Waiting
pub mod Traversal
