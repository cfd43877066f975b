use Rattle.disk_model.proofs.IdleLemmas.{idle-call}
use Rattle.rebuild_files.proofs.device.next_name.Goals as goal

pub returns-in_err-next-clause-idle : goal.returns-in_err-next-clause-idle
returns-in_err-next-clause-idle g c = idle-call _ _ c.next_name.ensures.state

pub returns-in-Some-clause-idle : goal.returns-in-Some-clause-idle
returns-in-Some-clause-idle g c = idle-call _ _ c.next_name.ensures.state

pub returns-in_default-clause-idle : goal.returns-in_default-clause-idle
returns-in_default-clause-idle g c = idle-call _ _ c.next_name.ensures.state
