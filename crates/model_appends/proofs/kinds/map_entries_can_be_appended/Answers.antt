use Rattle.model_appends.proofs.kinds.map_entries_can_be_appended.Goals as goal
use Rattle.model_appends.proofs.AppendSafeMapLemmas.{counts_append, stored_append, made_append, deleted_append, renamed_append}

pub returns : goal.returns
returns c = record { counts = counts_append; stored = stored_append; made = made_append; deleted = deleted_append; renamed = renamed_append }
