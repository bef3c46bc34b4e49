pub mod inside
pub mod Sets
pub mod Words
