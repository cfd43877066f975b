pub mod FetchLemmas
pub mod FirstLemmas
pub mod KnownFirstLemmas
pub mod SaveLemmas
pub mod SavedFormLemmas
pub mod WroteLemmas
