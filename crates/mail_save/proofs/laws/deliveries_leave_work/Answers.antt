use Rattle.mail_save.proofs.SaveReadyLemmas.{work_stays}
use Rattle.mail_save.proofs.laws.deliveries_leave_work.Goals as goal

pub returns : goal.returns
returns g c = work_stays
