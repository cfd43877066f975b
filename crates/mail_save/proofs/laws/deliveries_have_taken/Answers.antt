use Rattle.mail_save.proofs.SaveTakenLemmas.{taken_claimed}
use Rattle.mail_save.proofs.laws.deliveries_have_taken.Goals as goal

pub returns : goal.returns
returns c = taken_claimed
