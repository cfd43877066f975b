use Rattle.serving.proofs.ServingLemmas.{all_replied}
use Rattle.mail_fetch.specs.Task.{seen_in}
use Rattle.lanes.specs.Going.{stands_in}
use Rattle.lanes.specs.Rows.{lanes_of}
use Rattle.lanes.proofs.laws.lanes_end.Goals as goal

pub returns : goal.returns
returns g c = λ start script run journal broken replies began store history faults rows s idle. all_replied (stands_in store history) start script run journal broken replies began (seen_in store history faults) (lanes_of rows) s.serving s.lanes idle
