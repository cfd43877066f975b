use Rattle.model_logs.proofs.log_file.one_damage.Goals as goal
use Rattle.model_logs.proofs.LogFileLemmas.{one_damage, not_both}

pub returns-clause-place : goal.returns-clause-place
returns-clause-place c = one_damage

pub returns-clause-no_log : goal.returns-clause-no_log
returns-clause-no_log c = not_both
