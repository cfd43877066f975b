pub mod BatchLemmas
pub mod GivenWordLemmas
pub mod OrderLemmas
pub mod ReplyPrintLemmas
pub mod WordsLemmas
