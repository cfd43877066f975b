use Rattle.model_kept.proofs.KeptLemmas.{kept_idle}
use Rattle.model_kept.proofs.laws.idle_calls_keep_mail.Goals as goal

pub returns : goal.returns
returns c = kept_idle
