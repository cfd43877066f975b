use Rattle.std.proofs.Common.{◌≡◌, take, map}
use Rattle.store_instances.specs.NamedRows.{inst_row}
use Rattle.store_instances.proofs.named.rows_of.Given as goal

-- the rows so far
abbrev pub invariant-loop-row : goal.invariant-loop-row
invariant-loop-row l = l.rows.items ≡ map inst_row (take l.row-index l.named)
