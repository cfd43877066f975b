pub mod EntrySizeLemmas
pub mod ListItemLemmas
pub mod NumberTextLemmas
pub mod PlacedLemmas
pub mod StoredEntryLemmas
pub mod WordTextLemmas
