pub mod Clocks
pub mod Keywords
pub mod Numbers
pub mod Streams
pub mod Words
