pub mod Keys
pub mod Lookups
pub mod Named
pub mod Orders
pub mod TableKept
pub mod TableValue
pub mod Value
