pub mod MarkLemmas
pub mod ReaderLemmas
pub mod StepLemmas
