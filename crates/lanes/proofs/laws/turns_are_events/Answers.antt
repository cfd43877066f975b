use Rattle.lanes.proofs.TurnedLemmas.{turns_events}
use Rattle.lanes.proofs.laws.turns_are_events.Goals as goal

pub returns : goal.returns
returns g c = λ turns old new sound goes. turns_events g.D.Disk.history g.D.Disk.faults turns old new sound.clock sound.short goes
