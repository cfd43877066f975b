pub mod BoxFilled
pub mod Due
pub mod MapFilled
pub mod Rewrites
