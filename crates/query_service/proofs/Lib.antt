mod ServeLemmas
pub mod WrittenLemmas
