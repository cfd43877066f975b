pub mod ListLemmas
pub mod NoteLemmas
pub mod PathLemmas
