use Rattle.lanes.proofs.TurnedLemmas.{rounds_events}
use Rattle.lanes.proofs.laws.rounds_are_events.Goals as goal

pub returns : goal.returns
returns g c = λ lanes old new before after first second sound goes. rounds_events lanes old new before after first second sound.clock sound.short goes
