use Rattle.journal.proofs.MakesLemmas.{legal_by_task}
use Rattle.journal.proofs.events.tasks_make_journals.Goals as goal

pub returns : goal.returns
returns c = legal_by_task
