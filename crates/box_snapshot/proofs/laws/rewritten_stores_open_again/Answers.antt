use Rattle.box_snapshot.proofs.OpenAgainLemmas.{mail_reads, open_again}
use Rattle.box_snapshot.proofs.laws.rewritten_stores_open_again.Goals as goal

pub returns-clause-carried : goal.returns-clause-carried
returns-clause-carried g c = λ old new r s t was runs. open_again g.D.Disk.history old new r s t was runs

pub returns-clause-mail : goal.returns-clause-mail
returns-clause-mail g c = λ old new r runs. mail_reads _ _ (r.mail runs)
