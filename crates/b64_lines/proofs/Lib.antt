pub mod CutLemmas
pub mod FormLemmas
pub mod PairLemmas
pub mod SizeLemmas
pub mod WritingLemmas
pub mod WriterLemmas
