use Rattle.serving.proofs.LaneLemmas.{turn_passes}
use Rattle.serving.proofs.laws.requests_take_turns.Goals as goal

pub returns : goal.returns
returns c = turn_passes
