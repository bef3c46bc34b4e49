pub mod BuildLemmas
pub mod ClosureLemmas
pub mod CompleteLemmas
mod GatherLemmas
pub mod ListLemmas
pub mod WideLemmas
