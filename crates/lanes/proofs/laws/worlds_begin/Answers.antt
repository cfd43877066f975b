use Rattle.lanes.proofs.OpeningLemmas.{world_begins}
use Rattle.lanes.proofs.laws.worlds_begin.Goals as goal

pub returns : goal.returns
returns g c = world_begins
