use Rattle.mail_ops.proofs.ChangeClaimLemmas.{delete_stable}
use Rattle.mail_ops.proofs.StableLemmas.{copy_stable, expunge_stable, make_stable, move_stable}
use Rattle.mail_ops.proofs.laws.ready_tasks_are_stable.Goals as goal

pub returns-clause-copies : goal.returns-clause-copies
returns-clause-copies g c = copy_stable

pub returns-clause-moves : goal.returns-clause-moves
returns-clause-moves g c = move_stable

pub returns-clause-expunges : goal.returns-clause-expunges
returns-clause-expunges g c = expunge_stable

pub returns-clause-makes : goal.returns-clause-makes
returns-clause-makes g c = make_stable

pub returns-clause-deletes : goal.returns-clause-deletes
returns-clause-deletes g c = delete_stable
