pub mod FaultLemmas
mod LimitLemmas
pub mod LoadLemmas
pub mod LoadingLemmas
pub mod PassedLemmas
