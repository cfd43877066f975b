use Rattle.lane_tasks.proofs.RoomLemmas.{task_claims_few}
use Rattle.lane_tasks.proofs.laws.tasks_claim_few.Goals as goal

pub returns : goal.returns
returns g c = task_claims_few
