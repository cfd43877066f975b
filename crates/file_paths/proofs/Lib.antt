pub mod InstLemmas
pub mod OneFileLemmas
pub mod ReadLemmas
