-- Definitions that only private functions need: no contract of a public call names one.
pub mod Views
