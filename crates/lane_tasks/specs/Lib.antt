pub mod Clause
pub mod Tasks
pub mod Uses
