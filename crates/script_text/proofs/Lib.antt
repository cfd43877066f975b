pub mod AskedLemmas
pub mod CutLemmas
pub mod FlawLemmas
pub mod MadeLemmas
pub mod NeedLemmas
pub mod RequestLemmas
mod RowLemmas
pub mod ScriptLemmas
pub mod SpacedLemmas
pub mod TakeLemmas
