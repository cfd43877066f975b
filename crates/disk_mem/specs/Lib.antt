pub mod Images
pub mod Left
pub mod Marking
pub mod Mem
pub mod Mute
pub mod Numbers
pub mod Record
pub mod Sound
