use Rattle.purge_task.proofs.StableLemmas.{left_stays}
use Rattle.purge_task.proofs.laws.purges_leave_work.Goals as goal

pub returns : goal.returns
returns g c t = left_stays t.stage
