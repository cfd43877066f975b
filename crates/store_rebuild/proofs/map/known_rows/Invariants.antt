use Rattle.std.proofs.Common.{All, take}
use Rattle.model_logs.specs.Entries.{RowInRange}
use Rattle.store_rebuild.proofs.map.known_rows.Given as goal

abbrev pub invariant-loop-row : goal.invariant-loop-row
invariant-loop-row l = All RowInRange (take l.row-index l.rows)
