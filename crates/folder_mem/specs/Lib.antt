pub mod Listing
pub mod Mem
pub mod Notes
pub mod Seen
pub mod SystemLaw
