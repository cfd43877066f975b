pub mod FileLemmas
pub mod MetadataExampleLemmas
pub mod MetadataLemmas
pub mod ReferenceLemmas
pub mod ScanLemmas
pub mod WrittenFileLemmas
pub mod WrittenLemmas
