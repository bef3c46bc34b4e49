pub mod Columns
pub mod Files
pub mod inside
pub mod Rows
pub mod RowTexts
pub mod Values
pub mod Versions
