pub mod CandidateLemmas
pub mod CompareLemmas
pub mod HashLemmas
pub mod IdLemmas
pub mod KeysLemmas
pub mod MakeLemmas
pub mod RemoveLemmas
