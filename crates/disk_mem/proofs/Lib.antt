pub mod CallCountLemmas
pub mod CopyLemmas
pub mod FailingLemmas
pub mod FileLemmas
pub mod FollowingLemmas
pub mod HistoryLemmas
pub mod LeavingLemmas
pub mod MomentLemmas
mod MuteLemmas
pub mod ReadingLemmas
pub mod StepLemmas
