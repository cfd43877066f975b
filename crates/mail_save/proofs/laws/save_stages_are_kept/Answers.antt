use Rattle.mail_save.proofs.SaveKeptLemmas.{save_kept}
use Rattle.mail_save.proofs.laws.save_stages_are_kept.Goals as goal

pub returns : goal.returns
returns c = save_kept
