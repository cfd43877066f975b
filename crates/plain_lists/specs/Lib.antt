pub mod AtOnce
pub mod View
