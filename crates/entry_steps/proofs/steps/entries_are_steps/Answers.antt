use Rattle.entry_steps.proofs.steps.entries_are_steps.Goals as goal
use Rattle.entry_steps.proofs.AppendListLemmas.{flagged_by, worded_by, removed_by, added_by, removed_from, deleted_by, renamed_by}

pub returns : goal.returns
returns c = record { flagged = flagged_by; worded = worded_by; removed = removed_by; added = added_by; removed_from = removed_from; deleted = deleted_by; renamed = renamed_by }
