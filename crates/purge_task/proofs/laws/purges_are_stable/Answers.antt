use Rattle.purge_task.proofs.StableLemmas.{purge_stable}
use Rattle.purge_task.proofs.laws.purges_are_stable.Goals as goal

pub returns : goal.returns
returns g c = purge_stable
