pub mod PartLemmas
pub mod PastLemmas
pub mod WriteLemmas
