use Rattle.lane_tasks.proofs.StandLemmas.{task_stands}
use Rattle.lane_tasks.proofs.laws.tasks_stand.Goals as goal

pub returns : goal.returns
returns g c = task_stands
