pub mod Amounts
pub mod Appending
pub mod MapAppending
