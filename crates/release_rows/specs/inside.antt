-- Definitions that private functions alone need: no contract of a public call names one.
pub mod Comparison
pub mod FirstPass
pub mod KeyedRows
pub mod Keys
pub mod Repeated
pub mod RowsInside
pub mod RowStore
pub mod VersionsInside
pub mod VersionTable
