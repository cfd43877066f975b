pub mod HeaderFields
pub mod MessageFound
pub mod Reading
pub mod Rows
pub mod Sizes
pub mod Written
