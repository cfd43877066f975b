use Rattle.store_core.proofs.InstanceKeepingLemmas.{rows_agree}
use Rattle.store_core.proofs.laws.known_rows_agree.Goals as goal

pub returns : goal.returns
returns g c = rows_agree
