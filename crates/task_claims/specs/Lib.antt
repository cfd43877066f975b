pub mod Claims
pub mod Leaving
pub mod Stable
