pub mod FindingLemmas
pub mod ListingLemmas
pub mod NumberLemmas
