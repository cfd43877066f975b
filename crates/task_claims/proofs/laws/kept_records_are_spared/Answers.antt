use Rattle.task_claims.proofs.StoredLemmas.{kept_spared}
use Rattle.task_claims.proofs.laws.kept_records_are_spared.Goals as goal

pub returns : goal.returns
returns g c = record { spared = kept_spared }
