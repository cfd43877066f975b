pub mod InstPath
pub mod OneFile
pub mod Paths
