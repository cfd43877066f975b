pub mod BarredLemmas
pub mod EndLemmas
pub mod FoundLemmas
pub mod HighestFileLemmas
pub mod NumberListLemmas
pub mod PlaceLemmas
