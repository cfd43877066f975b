pub mod Pairs
pub mod Writer
