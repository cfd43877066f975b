pub mod Causes
pub mod Making
pub mod Opened
pub mod Refused
pub mod Rewritten
