mod AnswerLemmas
mod ExplanationLemmas
mod LimitLemmas
mod PromiseLemmas
