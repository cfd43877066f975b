pub mod SeeingLemmas
