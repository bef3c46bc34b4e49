pub mod ApartLemmas
mod CompareLemmas
pub mod FirstFaultLemmas
pub mod KindLemmas
pub mod LatestLemmas
mod ListedLemmas
pub mod NeighbourLemmas
mod PassLemmas
pub mod PiecesLemmas
mod ReadFromLemmas
mod ReadLineLemmas
mod SingleLemmas
pub mod SplitLemmas
pub mod TakingLemmas
pub mod VersionLemmas
mod WentLemmas
