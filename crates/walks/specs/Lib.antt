pub mod Asked
pub mod Components
pub mod Families
pub mod inside
pub mod Related
pub mod Reads
