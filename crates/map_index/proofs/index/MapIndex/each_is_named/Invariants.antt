use Rattle.map_index.proofs.Common.{◌≡◌, ◌<◌, ◌-◌, All}
use Rattle.model_meaning.specs.MapFits.{IsMovedOrDropped}
use Rattle.map_index.proofs.index.MapIndex.each_is_named.Given as goal

-- the records of the file before this offset are moved or dropped
abbrev pub invariant-loop-row : goal.invariant-loop-row
invariant-loop-row l = All (λ r. r.file ≡ l.file.0 → r.offset < l.from → IsMovedOrDropped l.moved l.dropped r) l.self.meaning.records

abbrev pub decreases-loop-row : goal.decreases-loop-row
decreases-loop-row l = 4294967295 - l.from
