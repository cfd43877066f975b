pub mod CarriedStore
pub mod OtherMap
pub mod Rewriting
pub mod Switched
pub mod Unneeded
