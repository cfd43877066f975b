use Rattle.disk_model.proofs.IdleLemmas.{idle-begins}
use Rattle.store_files.proofs.states.state_of.Goals.{then-sealed+in_ok-end, else-sealed}
use Rattle.store_files.proofs.states.state_of.Goals as goal

pub returns-clause-idle : goal.returns-clause-idle
returns-clause-idle g c = elim c.if-sealed.branch [
  | then-sealed+in_ok-end w ↦ rw w.disk-is w.in_ok-end.ensures.idle
  | else-sealed w ↦ rw w.disk-is (idle-begins _)
]
