pub mod Handed
pub mod Jobs
pub mod Traces
pub mod Work
