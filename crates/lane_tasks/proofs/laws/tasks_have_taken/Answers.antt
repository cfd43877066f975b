use Rattle.lane_tasks.proofs.StandLemmas.{task_taken}
use Rattle.lane_tasks.proofs.laws.tasks_have_taken.Goals as goal

pub returns : goal.returns
returns g c = task_taken
