pub mod Alone
pub mod Folded
pub mod Holding
pub mod Reading
