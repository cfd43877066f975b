use Rattle.script_run.proofs.SomeListsLemmas.{some_lists}
use Rattle.script_run.proofs.laws.opened_logs_show_lists.Goals as goal

pub returns : goal.returns
returns c = some_lists
