use Rattle.mail_ops.proofs.MoveStepLemmas.{move_kept}
use Rattle.mail_ops.proofs.laws.move_stages_are_kept.Goals as goal

pub returns : goal.returns
returns c = move_kept
