pub mod Accounts
pub mod Lanes
pub mod OwnWork
pub mod Serving
pub mod Standing
pub mod Taken
pub mod Turns
