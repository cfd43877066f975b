pub mod GivenLemmas
pub mod HandedLemmas
pub mod JobLemmas
pub mod SeatLemmas
pub mod SendLemmas
pub mod TraceLemmas
