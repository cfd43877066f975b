pub mod Shown
pub mod Kept
pub mod Has
pub mod Needs
pub mod Value
