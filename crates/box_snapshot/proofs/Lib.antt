mod BoxDraftLemmas
mod BoxEntryLemmas
mod BoxFillLemmas
mod BoxGroupLemmas
mod BoxMeantLemmas
mod BoxSwitchLemmas
mod DueLemmas
mod DueLogsLemmas
mod MapEntryLemmas
mod MapFillLemmas
mod MapGroupLemmas
mod MapKnownLemmas
mod MapSnapshotLemmas
mod OpenAgainLemmas
pub mod RewritesLemmas
