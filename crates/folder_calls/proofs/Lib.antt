pub mod ReadLemmas
pub mod WayLemmas
