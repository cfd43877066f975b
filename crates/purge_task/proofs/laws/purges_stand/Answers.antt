use Rattle.purge_task.proofs.BesideLemmas.{purge_stands}
use Rattle.purge_task.proofs.laws.purges_stand.Goals as goal

pub returns : goal.returns
returns g c = purge_stands
