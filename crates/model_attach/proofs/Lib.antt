pub mod DetachedLemmas
pub mod RejoinedLemmas
