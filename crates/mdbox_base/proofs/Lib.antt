pub mod DecimalLemmas
pub mod DigitLemmas
pub mod KeywordLemmas
pub mod LowerHexLemmas
pub mod StreamLemmas
pub mod WordPlaceLemmas
