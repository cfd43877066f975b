use Rattle.model_appends.proofs.kinds.what_entries_add_is_synced.Goals as goal
use Rattle.model_appends.proofs.AppendSafeMapLemmas.{leaves_added, counts_synced}
use Rattle.model_appends.proofs.DeletedMailboxLemmas.{leaves_deleted, leaves_renamed}

pub returns : goal.returns
returns c = record { agrees = leaves_added; counts = counts_synced; deleted = leaves_deleted; renamed = leaves_renamed }
