pub mod AskedLemmas
pub mod JoinedLemmas
pub mod RelatedLemmas
pub mod MemberLemmas
pub mod ReadLemmas
pub mod ReachedLemmas
pub mod SpendLemmas
pub mod StepLemmas
