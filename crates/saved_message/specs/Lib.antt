pub mod Laid
pub mod Layout
pub mod References
pub mod Region
pub mod Saved
