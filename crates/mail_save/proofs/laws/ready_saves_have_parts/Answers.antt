use Rattle.mail_save.proofs.SavePartLemmas.{ready_has_parts}
use Rattle.mail_save.proofs.laws.ready_saves_have_parts.Goals as goal

pub returns : goal.returns
returns g c = ready_has_parts
