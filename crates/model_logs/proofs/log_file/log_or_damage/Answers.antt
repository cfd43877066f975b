use Rattle.model_logs.proofs.log_file.log_or_damage.Goals as goal
use Rattle.model_logs.proofs.LogRecordLemmas.{log_or_damage}

pub returns : goal.returns
returns c = log_or_damage
