pub mod ApartLemmas
pub mod CutLemmas
pub mod NamingLemmas
