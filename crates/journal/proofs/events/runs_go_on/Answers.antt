use Rattle.journal.proofs.MakesLemmas.{run_goes_on}
use Rattle.journal.proofs.events.runs_go_on.Goals as goal

pub returns : goal.returns
returns c = run_goes_on
