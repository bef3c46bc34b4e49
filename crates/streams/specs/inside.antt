-- Definitions that private functions alone need: no contract of a public call names one.
pub mod TraversalInside
