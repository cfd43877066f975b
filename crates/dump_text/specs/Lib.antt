pub mod DumpText
pub mod LogDumpText
