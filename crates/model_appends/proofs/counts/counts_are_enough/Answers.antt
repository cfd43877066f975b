use Rattle.model_appends.proofs.counts.counts_are_enough.Goals as goal
use Rattle.model_appends.proofs.AppendCountLemmas.{counts_by_box_entry, counts_by_map_entry}
use Rattle.model_appends.proofs.ChangedLogsLemmas.{counts_by_change}

pub returns : goal.returns
returns c = record { box_entry = counts_by_box_entry; map_entry = counts_by_map_entry; changed = counts_by_change }
