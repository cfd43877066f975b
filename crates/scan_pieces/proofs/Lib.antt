pub mod FillLemmas
pub mod HeaderPieceLemmas
pub mod LongLemmas
pub mod PieceLemmas
pub mod ScannedLemmas
pub mod WindowLemmas
