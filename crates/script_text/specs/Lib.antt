pub mod Flaws
pub mod MadeScript
pub mod Reading
pub mod Script
pub mod Taking
