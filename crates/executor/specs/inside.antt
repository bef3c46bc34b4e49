-- Definitions that private functions alone need: no contract of a public call names one.
pub mod Along
pub mod Executed
pub mod Logical
pub mod Named
pub mod PartOrder
pub mod WithGroups
