pub mod Barred
pub mod Found
pub mod Regions
