use Rattle.model_rebuild.proofs.PlanLemmas.{plan_same}
use Rattle.model_rebuild.proofs.laws.a_rebuild_is_one.Goals as goal

pub returns : goal.returns
returns c = plan_same
