pub mod KeyInterner
pub mod inside
