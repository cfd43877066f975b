use Rattle.mail_fetch.proofs.Common.{◌≡◌, ◌+◌, take, sum_by}
use Rattle.mail_fetch.proofs.parts.octets_to_read.Given as goal

abbrev pub invariant-loop-instance : goal.invariant-loop-instance
invariant-loop-instance l = l.total ≡ l.from.size + sum_by (λ row. row.size) (take l.instance-index l.instance-items)
