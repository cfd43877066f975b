pub mod OneRequest
pub mod Rounds
pub mod Session
