pub mod Pieces
pub mod Scanned
pub mod WindowValue
