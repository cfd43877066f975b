pub mod NewLogs
pub mod Planned
pub mod Rebuilding
pub mod Rootless
pub mod Writing
