use Rattle.script_run.proofs.ReachedMakeLemmas.{made_left, reached_make}
use Rattle.script_run.proofs.laws.makes_make_one_step.Goals as goal

pub returns-clause-left : goal.returns-clause-left
returns-clause-left c = made_left

pub returns-clause-reached : goal.returns-clause-reached
returns-clause-reached c = reached_make
