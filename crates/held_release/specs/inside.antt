-- Definitions that private functions alone need: no contract of a public call names one.
pub mod Blocks
pub mod ConceptsInside
pub mod FirstRows
pub mod LeastCycle
pub mod Lined
pub mod LinesInside
pub mod NamesInLines
pub mod NumberedInside
pub mod SnapshotInside
pub mod Sorted
pub mod TextsInside
