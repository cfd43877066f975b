use Rattle.mail_ops.proofs.Common.{◌≡◌, ◌≤◌, take, sum_by}
use Rattle.std.proofs.Common.{◌*◌}
use Rattle.mail_ops.proofs.counting.counted.Given as goal

abbrev pub invariant-loop-place : goal.invariant-loop-place
invariant-loop-place l = (l.count ≡ sum_by (λ row. row.count) (take l.place l.map.meaning.records)) × (l.count ≤ 65535 * l.place)
