use Rattle.lane_tasks.proofs.StandLemmas.{task_stable}
use Rattle.lane_tasks.proofs.laws.tasks_are_stable.Goals as goal

pub returns : goal.returns
returns g c = task_stable
