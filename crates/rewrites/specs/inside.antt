-- Definitions that only private functions need: no contract of a public call names one.
pub mod Connected
pub mod Counted
pub mod Gives
