pub mod LineLemmas
pub mod ContinuedLemmas
pub mod ReadingLemmas
pub mod ParameterLemmas
pub mod AloneLemmas
pub mod FindingLemmas
