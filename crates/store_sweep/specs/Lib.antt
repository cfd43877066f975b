pub mod Boxes
pub mod Held
pub mod Wanted
pub mod Moments
pub mod Repaired
pub mod Swept
