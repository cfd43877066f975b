use Rattle.model_appends.proofs.purged.purges_keep_stores_open.Goals as goal
use Rattle.model_appends.proofs.AppendPurgeOpenLemmas.{good_by_purge, opens_by_purge, accounted_by_purge}

pub returns : goal.returns
returns c = record { good = good_by_purge; opens = opens_by_purge; accounted = accounted_by_purge }
