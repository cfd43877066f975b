pub mod FoundRowLemmas
pub mod GatheredLemmas
pub mod SoundInstanceLemmas
