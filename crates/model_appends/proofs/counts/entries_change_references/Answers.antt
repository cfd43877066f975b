use Rattle.model_appends.proofs.counts.entries_change_references.Goals as goal
use Rattle.model_appends.proofs.AppendCountLemmas.{refs_next, refs_flagged, refs_worded, refs_removed, refs_added, refs_made}
use Rattle.model_appends.proofs.ChangedLogsLemmas.{refs_by_deletion, refs_by_name}

pub returns : goal.returns
returns c = record { next = refs_next; flagged = refs_flagged; worded = refs_worded; removed = refs_removed; added = refs_added; made = refs_made; deleted = refs_by_deletion; renamed = refs_by_name }
