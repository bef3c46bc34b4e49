-- Definitions that private functions alone need: no contract of a public call names one.
pub mod Cells
pub mod Coded
pub mod FirstKeysInside
pub mod IndexInside
pub mod KeptRows
pub mod KeyedPlaces
pub mod Packed
pub mod PairKeys
pub mod RowIndexes
