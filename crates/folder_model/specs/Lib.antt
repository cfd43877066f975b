pub mod Calls
pub mod Limits
pub mod Paths
pub mod System
