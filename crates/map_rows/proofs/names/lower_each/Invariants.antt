use Rattle.map_rows.proofs.Common.{◌≡◌, ◌+◌, Bool, take, InstRow, namings_of, AreNumbered, times}
use Rattle.std.specs.Prelude.{vec_len, vec_capacity}
use Rattle.map_rows.proofs.names.lower_each.Given as goal

-- those so far are removed
abbrev pub invariant-loop-row : goal.invariant-loop-row
invariant-loop-row l = record {
  are : AreNumbered l.named.items;
  names : (p : InstRow → Bool) → namings_of p l.named.items + times p (take l.row-index l.rows) ≡ namings_of p l.initial.named.items;
  len : vec_len l.named ≡ vec_len l.initial.named;
  capacity : vec_capacity l.named ≡ vec_capacity l.initial.named;
}
