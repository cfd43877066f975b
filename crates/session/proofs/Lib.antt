pub mod ChainLemmas
pub mod FinishLemmas
pub mod GoneLemmas
pub mod LeftLemmas
pub mod OneLemmas
pub mod TellLemmas
