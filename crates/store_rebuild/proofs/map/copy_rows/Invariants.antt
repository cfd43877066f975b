use Rattle.std.proofs.Common.{◌≡◌, ◌++◌, length}
use Rattle.store_rebuild.proofs.map.copy_rows.Given as goal

abbrev pub invariant-loop-row : goal.invariant-loop-row
invariant-loop-row l = l.copy ++ l.rest ≡ l.rows

abbrev pub decreases-loop-row : goal.decreases-loop-row
decreases-loop-row l = length l.rest
