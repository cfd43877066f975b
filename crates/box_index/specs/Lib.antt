pub mod Pieces
pub mod Row
pub mod State
