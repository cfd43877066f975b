use Rattle.lane_tasks.proofs.HoldsLemmas.{held_told}
use Rattle.lane_tasks.proofs.uses.tasks_tell_holds.Goals as goal

pub returns : goal.returns
returns g c = held_told
