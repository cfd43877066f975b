use Rattle.std.proofs.Common.{◌≡◌, ◌++◌, take, map}
use Rattle.store_instances.specs.NamedRows.{named_row}
use Rattle.store_instances.proofs.named.add_rows.Given as goal

-- the rows so far
abbrev pub invariant-loop-row : goal.invariant-loop-row
invariant-loop-row l = l.rows.items ≡ l.initial.rows.items ++ map named_row (take l.row-index l.named)
