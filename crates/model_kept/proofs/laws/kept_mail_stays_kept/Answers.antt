use Rattle.model_kept.proofs.KeptLemmas.{kept_then}
use Rattle.model_kept.proofs.laws.kept_mail_stays_kept.Goals as goal

pub returns : goal.returns
returns c = kept_then
