pub mod FewLemmas
pub mod GoodListLemmas
pub mod GoodRebuildLemmas
pub mod JudgingLemmas
pub mod RangeLemmas
pub mod TakenLemmas
