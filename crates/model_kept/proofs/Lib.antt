pub mod CutFileLemmas
pub mod KeptLemmas
