use Rattle.lanes.proofs.WaitingLemmas.{idle_replied}
use Rattle.lanes.proofs.laws.idle_worlds_have_replied.Goals as goal

pub returns : goal.returns
returns g c = λ world history sound idle. idle_replied world.rows world.replies idle sound.once
