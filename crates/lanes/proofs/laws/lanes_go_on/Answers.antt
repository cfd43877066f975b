use Rattle.lanes.proofs.GoingLemmas.{going_on}
use Rattle.lanes.proofs.laws.lanes_go_on.Goals as goal

pub returns : goal.returns
returns g c = going_on
