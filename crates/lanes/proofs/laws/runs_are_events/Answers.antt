use Rattle.lanes.proofs.TurnedLemmas.{runs_events}
use Rattle.lanes.proofs.laws.runs_are_events.Goals as goal

pub returns : goal.returns
returns g c = runs_events g.D.Disk.history g.D.Disk.faults
