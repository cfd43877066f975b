use Rattle.mail_save.proofs.StableSaveLemmas.{save_stable}
use Rattle.mail_save.proofs.laws.deliveries_are_stable.Goals as goal

pub returns : goal.returns
returns g c = save_stable
