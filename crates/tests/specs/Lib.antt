pub mod Deliveries
pub mod Makes
pub mod Tasks
