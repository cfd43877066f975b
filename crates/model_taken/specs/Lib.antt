pub mod Judging
pub mod NamedInstances
pub mod Rebuild
pub mod Taken
