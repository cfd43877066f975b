pub mod FindingLemmas
pub mod StandingLemmas
