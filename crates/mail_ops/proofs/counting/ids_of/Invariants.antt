use Rattle.mail_ops.proofs.Common.{◌≡◌, map, take, flat_map}
use Rattle.mail_ops.proofs.counting.ids_of.Given as goal

abbrev pub invariant-loop-place : goal.invariant-loop-place
invariant-loop-place l = l.ids.items ≡ map (λ x. x.id.0) (flat_map (λ r. r.instances) (take l.place l.map.meaning.records))
