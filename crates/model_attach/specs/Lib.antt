pub mod Detached
pub mod Rejoined
pub mod VirtualSize
