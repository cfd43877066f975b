use Rattle.std.proofs.Common.{◌≡◌, ◌++◌, slice_get, drop}
use Rattle.box_index.specs.Pieces.{rows_in}
use Rattle.box_index.proofs.pieces.Pieces.row_at.Given as goal

-- as many rows as were passed over are left out
abbrev pub invariant-loop-piece : goal.invariant-loop-piece
invariant-loop-piece l = slice_get (rows_in l.self-inside.earlier.items ++ l.self-inside.last.rows) l.fn.place ≡ slice_get (rows_in (drop l.piece-index l.self-inside.earlier.items) ++ l.self-inside.last.rows) l.after
