pub mod Examples
mod FeedLemmas
pub mod HeldLemmas
pub mod Parts
pub mod PieceLemmas
