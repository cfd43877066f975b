use Rattle.mail_ops.proofs.Common.{◌≡◌, ◌≤◌, take, sum_by, indexes_of}
use Rattle.std.proofs.Common.{◌*◌, length}
use Rattle.mail_ops.proofs.counting.listed.Given as goal

abbrev pub invariant-loop-place : goal.invariant-loop-place
invariant-loop-place g l = (l.count ≡ sum_by (λ m. length m.rows) (take l.place (indexes_of l.store.boxes))) × (l.count ≤ 1000000 * l.place)
