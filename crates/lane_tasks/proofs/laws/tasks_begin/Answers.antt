use Rattle.lane_tasks.proofs.StandLemmas.{begins_ready, begins_standing, begins_unclaimed}
use Rattle.lane_tasks.proofs.laws.tasks_begin.Goals as goal

pub returns-clause-claims : goal.returns-clause-claims
returns-clause-claims g c = begins_unclaimed

pub returns-clause-ready : goal.returns-clause-ready
returns-clause-ready g c = begins_ready

pub returns-clause-stands : goal.returns-clause-stands
returns-clause-stands g c = begins_standing
