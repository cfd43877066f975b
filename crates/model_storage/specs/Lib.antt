pub mod Grammars
pub mod Metadata
pub mod References
pub mod StorageFile
pub mod WrittenFile
pub mod Places
