use Rattle.std.proofs.Common.{◌≡◌, map, take}
use Rattle.store_checks.proofs.counts.counts_of.Given as goal

abbrev pub invariant-loop-place : goal.invariant-loop-place
invariant-loop-place l = l.counts.items ≡ map (λ row. row.count) (take l.place l.map.meaning.records)
