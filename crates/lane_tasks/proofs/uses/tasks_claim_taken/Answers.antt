use Rattle.lane_tasks.proofs.TakesLemmas.{claimed_taken}
use Rattle.lane_tasks.proofs.uses.tasks_claim_taken.Goals as goal

pub returns : goal.returns
returns g c = claimed_taken
