pub mod LockRule
pub mod LockSteps
pub mod Seats
