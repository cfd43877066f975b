pub mod CountedLemmas
pub mod GoneLemmas
pub mod LeftLemmas
pub mod NameLemmas
pub mod OpenedLemmas
pub mod RestLemmas
pub mod StayLemmas
pub mod StoredLemmas
