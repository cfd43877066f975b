pub mod Comparing
pub mod Hashes
pub mod Instances
pub mod OnDisk
pub mod Refusals
