use Rattle.disk_model.proofs.IdleLemmas.{idle-begins, idle-unchanged}
use Rattle.store_open.proofs.free.has_mail_file.Goals as goal

pub returns-in_err-next-clause-idle : goal.returns-in_err-next-clause-idle
returns-in_err-next-clause-idle g c = idle-unchanged _ _ _ (idle-begins _) c.next_name.ensures.state

pub returns-clause-idle : goal.returns-clause-idle
returns-clause-idle g c = idle-unchanged _ _ _ (idle-begins _) c.next_name.ensures.state
