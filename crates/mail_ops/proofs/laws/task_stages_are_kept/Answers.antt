use Rattle.mail_ops.proofs.StageLemmas.{stages_kept}
use Rattle.mail_ops.proofs.laws.task_stages_are_kept.Goals as goal

pub returns : goal.returns
returns c = stages_kept
