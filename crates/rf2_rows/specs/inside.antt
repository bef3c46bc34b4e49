-- Definitions that private functions alone need: no contract of a public call names one.
pub mod FieldsInside
pub mod Formats
pub mod RecentInside
pub mod Starts
pub mod Tabs
pub mod SharedColumns
