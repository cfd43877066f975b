pub mod CheckLemmas
pub mod FillLemmas
pub mod JoinLemmas
pub mod KeptLemmas
pub mod OutsideLemmas
pub mod RestoredLemmas
pub mod SpreadLemmas
pub mod TextLemmas
