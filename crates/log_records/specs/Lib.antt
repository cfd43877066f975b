pub mod Added
pub mod Refused
pub mod Stored
pub mod Worded
