pub mod Changed
pub mod Files
pub mod Folders
pub mod Known
pub mod Names
pub mod Over
pub mod ReadsImage
pub mod Start
