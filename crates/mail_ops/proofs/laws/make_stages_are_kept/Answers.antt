use Rattle.mail_ops.proofs.MakeStageLemmas.{make_kept}
use Rattle.mail_ops.proofs.laws.make_stages_are_kept.Goals as goal

pub returns : goal.returns
returns c = make_kept
