pub mod KeptLemmas
pub mod OpenLemmas
