mod PlaceLemmas
pub mod ReplyKindLemmas
pub mod ReplyReadLemmas
mod TextReadLemmas
