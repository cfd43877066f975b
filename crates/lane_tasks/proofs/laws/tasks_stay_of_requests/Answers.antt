use Rattle.lane_tasks.proofs.StepLemmas.{request_stays}
use Rattle.lane_tasks.proofs.laws.tasks_stay_of_requests.Goals as goal

pub returns : goal.returns
returns c = request_stays
