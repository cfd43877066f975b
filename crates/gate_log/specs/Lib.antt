pub mod Causes
pub mod Log
pub mod Reading
pub mod State
pub mod Text
