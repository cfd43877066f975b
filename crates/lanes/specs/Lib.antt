pub mod Asked
pub mod Going
pub mod Kept
pub mod Rows
pub mod Turned
pub mod Worlds
