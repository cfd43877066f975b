use Rattle.std.proofs.Common.{◌≡◌, vec_len}
use Rattle.turn_lock.proofs.JoinLemmas.{Collected}
use Rattle.turn_lock.proofs.close.close_lock.Given as goal

abbrev pub invariant-loop-next : goal.invariant-loop-next
invariant-loop-next g l = (l.first.table_id ≡ l.fn.lock.table.shared.table_id) × Collected l.fn.lock.table.shared.table_id l.fn.seats l.seats.items l.first.me

abbrev pub decreases-loop-next : goal.decreases-loop-next
decreases-loop-next g l = vec_len l.seats
