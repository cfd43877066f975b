pub mod PartsExampleLemmas
pub mod PartsLemmas
