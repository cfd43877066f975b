pub mod Entries
pub mod LogExamples
pub mod LogFile
