use Rattle.map_rows.proofs.Common.{◌≡◌, ◌+◌, Bool, take, InstRow, AreNamings, namings_of, times}
use Rattle.map_rows.proofs.names.InstanceNames.add_each.Given as goal

-- those so far are added
abbrev pub invariant-loop-row : goal.invariant-loop-row
invariant-loop-row l = record {
  are : AreNamings l.self.named;
  names : (p : InstRow → Bool) → namings_of p l.self.named ≡ namings_of p l.initial.self.named + times p (take l.row-index l.rows);
  room : l.self.room + l.row-index ≡ l.initial.self.room;
}
