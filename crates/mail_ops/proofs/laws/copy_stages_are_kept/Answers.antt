use Rattle.mail_ops.proofs.CopyStepLemmas.{copy_kept}
use Rattle.mail_ops.proofs.laws.copy_stages_are_kept.Goals as goal

pub returns : goal.returns
returns c = copy_kept
