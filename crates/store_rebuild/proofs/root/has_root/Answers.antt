use Rattle.disk_model.proofs.IdleLemmas.{idle-call}
use Rattle.store_rebuild.proofs.root.has_root.Goals as goal

pub returns-in-Ok-clause-idle : goal.returns-in-Ok-clause-idle
returns-in-Ok-clause-idle g c = idle-call _ _ c.length.ensures.state

pub returns-in-Err-Absent-clause-idle : goal.returns-in-Err-Absent-clause-idle
returns-in-Err-Absent-clause-idle g c = idle-call _ _ c.length.ensures.state

pub returns-in-Err-Failed-clause-idle : goal.returns-in-Err-Failed-clause-idle
returns-in-Err-Failed-clause-idle g c = idle-call _ _ c.length.ensures.state
