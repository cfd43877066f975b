pub mod BlameLemmas
pub mod KeywordBlameLemmas
pub mod LineLemmas
pub mod PrintLemmas
pub mod RuleLemmas
