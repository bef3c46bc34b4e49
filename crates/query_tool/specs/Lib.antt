pub mod inside
pub mod Promise
