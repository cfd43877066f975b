use Rattle.model_logs.proofs.log_file.one_log.Goals as goal
use Rattle.model_logs.proofs.LogFileLemmas.{one_log}

pub returns : goal.returns
returns c = one_log
