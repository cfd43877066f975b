use Rattle.mail_ops.proofs.DeleteStageLemmas.{delete_kept}
use Rattle.mail_ops.proofs.laws.delete_stages_are_kept.Goals as goal

pub returns : goal.returns
returns c = delete_kept
