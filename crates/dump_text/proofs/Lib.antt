pub mod DumpLemmas
pub mod LogPrintLemmas
pub mod PlaceLemmas
