pub mod AttachCountLemmas
pub mod AttachingLemmas
pub mod FoundLemmas
pub mod LetGoLemmas
