pub mod Adding
pub mod Files
pub mod OnDisk
