pub mod Asked
pub mod Chosen
pub mod inside
pub mod WorkedBounds
