pub mod EntryLemmas
pub mod LogFileLemmas
pub mod LogHeadLemmas
pub mod LogRecordLemmas
pub mod MapEntryLemmas
