pub mod AskedLemmas
pub mod ChosenLemmas
pub mod LeastLemmas
pub mod ListedLemmas
pub mod PassLemmas
pub mod Rules
