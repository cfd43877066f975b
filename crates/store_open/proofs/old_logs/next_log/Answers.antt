use Rattle.disk_model.proofs.IdleLemmas.{idle-begins, idle-unchanged}
use Rattle.store_open.proofs.old_logs.next_log.Goals as goal

pub returns-in_err-name-clause-idle : goal.returns-in_err-name-clause-idle
returns-in_err-name-clause-idle g c = idle-unchanged _ _ _ (idle-begins _) c.next_name.ensures.state

pub returns-in-Some-clause-idle : goal.returns-in-Some-clause-idle
returns-in-Some-clause-idle g c = idle-unchanged _ _ _ (idle-begins _) c.next_name.ensures.state

pub returns-in_default-clause-idle : goal.returns-in_default-clause-idle
returns-in_default-clause-idle g c = idle-unchanged _ _ _ (idle-begins _) c.next_name.ensures.state

pub returns-in_default-2-clause-idle : goal.returns-in_default-2-clause-idle
returns-in_default-2-clause-idle g c = idle-unchanged _ _ _ (idle-begins _) c.next_name.ensures.state
