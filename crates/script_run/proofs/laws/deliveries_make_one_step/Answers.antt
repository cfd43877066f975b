use Rattle.script_run.proofs.ReachedSaveLemmas.{reached_saved}
use Rattle.script_run.proofs.laws.deliveries_make_one_step.Goals as goal

pub returns : goal.returns
returns c = reached_saved
