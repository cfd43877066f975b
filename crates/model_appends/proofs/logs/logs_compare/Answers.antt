use Rattle.model_appends.proofs.logs.logs_compare.Goals as goal
use Rattle.model_appends.proofs.AppendSafeLemmas.{same_log, more_log}

pub returns : goal.returns
returns c = record { same = same_log; more = more_log }
