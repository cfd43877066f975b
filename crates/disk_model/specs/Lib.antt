pub mod Disk
pub mod Error
pub mod FaultCounts
pub mod Name
