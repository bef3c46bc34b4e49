pub mod AttributeLemmas
pub mod ChosenItemLemmas
pub mod ConcreteLemmas
pub mod NameLemmas
pub mod SpanLemmas
