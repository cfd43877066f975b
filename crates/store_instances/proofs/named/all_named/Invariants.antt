use Rattle.std.proofs.Common.{◌≡◌, map, take, flat_map}
use Rattle.store_instances.specs.NamedRows.{named_row}
use Rattle.store_instances.proofs.named.all_named.Given as goal

-- the instances of the records so far
abbrev pub invariant-loop-place : goal.invariant-loop-place
invariant-loop-place l = l.rows.items ≡ map named_row (flat_map (λ row. row.instances) (take l.place l.map.meaning.records))
