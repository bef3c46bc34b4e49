pub mod DifferLemmas
pub mod FoundLemmas
pub mod LevelLemmas
pub mod NamesOnceLemmas
pub mod SlashLemmas
pub mod WaitingLemmas
pub mod TraversalLemmas
