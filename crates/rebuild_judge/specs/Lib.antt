pub mod Joining
pub mod Judges
pub mod Kept
pub mod Reading
