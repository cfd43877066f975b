use Rattle.mail_ops.proofs.Common.{◌≡◌, ◌++◌, map, take}
use Rattle.mail_ops.proofs.counting.push_ids.Given as goal

abbrev pub invariant-loop-instance : goal.invariant-loop-instance
invariant-loop-instance l = l.ids.items ≡ l.initial.ids.items ++ map (λ x. x.id.0) (take l.instance-index l.instances)
