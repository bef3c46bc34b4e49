pub mod DecimalLemmas
pub mod DigitLemmas
