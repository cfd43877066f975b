pub mod BlameText
pub mod Blames
pub mod Rules
