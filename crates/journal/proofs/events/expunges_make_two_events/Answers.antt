use Rattle.journal.proofs.ExpungeLemmas.{removal_makes, lowering_makes}
use Rattle.journal.proofs.events.expunges_make_two_events.Goals as goal

pub returns : goal.returns
returns c = record { removal = removal_makes; lowering = lowering_makes }
