pub mod HierarchyLemmas
pub mod OrderLemmas
pub mod ReleaseLemmas
pub mod SearchLemmas
pub mod WayLemmas
pub mod Rules
