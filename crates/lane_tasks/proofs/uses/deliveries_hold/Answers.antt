use Rattle.lane_tasks.proofs.HoldsLemmas.{delivery_holds}
use Rattle.lane_tasks.proofs.uses.deliveries_hold.Goals as goal

pub returns : goal.returns
returns g c = delivery_holds
