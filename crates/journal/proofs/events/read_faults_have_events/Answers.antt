use Rattle.journal.proofs.FaultLemmas.{faults_have_events}
use Rattle.journal.proofs.events.read_faults_have_events.Goals as goal

pub returns : goal.returns
returns c = faults_have_events
