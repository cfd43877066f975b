use Rattle.disk_model.proofs.IdleLemmas.{idle-begins, idle-unchanged}
use Rattle.store_files.proofs.states.length_of.Goals as goal

pub returns-in-Err-Failed-clause-idle : goal.returns-in-Err-Failed-clause-idle
returns-in-Err-Failed-clause-idle g c = idle-unchanged _ _ _ (idle-begins _) c.length.ensures.state

pub returns-in-Ok-clause-idle : goal.returns-in-Ok-clause-idle
returns-in-Ok-clause-idle g c = idle-unchanged _ _ _ (idle-begins _) c.length.ensures.state

pub returns-in-Err-Absent-clause-idle : goal.returns-in-Err-Absent-clause-idle
returns-in-Err-Absent-clause-idle g c = idle-unchanged _ _ _ (idle-begins _) c.length.ensures.state
