pub mod CheckLemmas
pub mod PositionLemmas
pub mod PlainStepLemmas
