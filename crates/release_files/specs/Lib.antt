pub mod Held
pub mod inside
pub mod Lines
pub mod MemorySource
pub mod PieceLines
pub mod Source
