use Rattle.script_run.proofs.ReachedMoveLemmas.{never_gone, reached_moved}
use Rattle.script_run.proofs.laws.moves_make_two_steps.Goals as goal

pub returns-clause-reached : goal.returns-clause-reached
returns-clause-reached c = reached_moved

pub returns-clause-here : goal.returns-clause-here
returns-clause-here c = never_gone
