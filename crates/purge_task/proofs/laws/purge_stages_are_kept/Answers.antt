use Rattle.purge_task.proofs.KeptLemmas.{purge_stays}
use Rattle.purge_task.proofs.laws.purge_stages_are_kept.Goals as goal

pub returns : goal.returns
returns g c = purge_stays
