use Rattle.lane_tasks.proofs.HoldsLemmas.{fetch_holds}
use Rattle.lane_tasks.proofs.uses.fetches_hold.Goals as goal

pub returns : goal.returns
returns g c = fetch_holds
