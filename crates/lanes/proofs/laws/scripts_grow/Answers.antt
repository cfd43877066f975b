use Rattle.lanes.proofs.AskLemmas.{asked_grows}
use Rattle.lanes.proofs.laws.scripts_grow.Goals as goal

pub returns : goal.returns
returns g c = asked_grows
