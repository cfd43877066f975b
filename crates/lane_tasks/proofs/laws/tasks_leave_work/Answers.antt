use Rattle.lane_tasks.proofs.WorkLemmas.{work_stays}
use Rattle.lane_tasks.proofs.laws.tasks_leave_work.Goals as goal

pub returns : goal.returns
returns g c = work_stays
