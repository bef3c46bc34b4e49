mod AnswerLemmas
pub mod LineLemmas
pub mod LinedLemmas
