pub mod Extents
pub mod Groups
pub mod inside
pub mod Numbers
pub mod RowCounts
pub mod RowEstimates
pub mod Within
