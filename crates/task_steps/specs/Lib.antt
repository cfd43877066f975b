pub mod ExpungeStages
pub mod Serves
pub mod Step
pub mod Tells
