use Rattle.mail_ops.proofs.ExpungeStepLemmas.{expunge_kept}
use Rattle.mail_ops.proofs.laws.expunge_stages_are_kept.Goals as goal

pub returns : goal.returns
returns c = expunge_kept
