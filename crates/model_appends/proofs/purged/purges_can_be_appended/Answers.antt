use Rattle.model_appends.proofs.purged.purges_can_be_appended.Goals as goal
use Rattle.model_appends.proofs.AppendPurgeLemmas.{purged_append, leaves_purged}

pub returns : goal.returns
returns c = record { append = purged_append; synced = leaves_purged }
