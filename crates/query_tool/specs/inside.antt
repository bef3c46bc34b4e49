-- Definitions that private functions alone need: no contract of a public call names one.
pub mod AskedPlan
pub mod EngineInside
pub mod LineFound
