use Rattle.model_kept.proofs.KeptLemmas.{kept_for_less}
use Rattle.model_kept.proofs.laws.mail_kept_for_less.Goals as goal

pub returns : goal.returns
returns c = kept_for_less
