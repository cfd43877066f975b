pub mod FoundInstances
pub mod NamedRows
