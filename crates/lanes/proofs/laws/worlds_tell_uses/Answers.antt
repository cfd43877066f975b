use Rattle.lanes.specs.Rows.{lanes_of}
use Rattle.lanes.proofs.TellsUsesLemmas.{tells_uses}
use Rattle.lanes.proofs.laws.worlds_tell_uses.Goals as goal

pub returns : goal.returns
returns g c = λ start script run journal broken replies began store history faults rows going runs. tells_uses start script run journal broken replies began _ (lanes_of rows) store history going.serving going.lanes (going.accounts runs) runs runs
