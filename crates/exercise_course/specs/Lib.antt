pub mod Hindered
pub mod InOrder
