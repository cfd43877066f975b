-- Rows of a mailbox as the code has them, and what they stand for.
use Rattle.std.specs.Prelude.{◌==◌, if◌then◌else◌, ◌+◌, ◌≤◌, ℕ, List, [], ◌∷◌, length}
use Rattle.model_meaning.specs.BoxMeaning.{LogRow, BoxMeaning}
use Rattle.box_index.specs.declared.index.BoxRow.{BoxRow}
use Rattle.box_index.specs.declared.index.RowChange.{RowChange}
use Rattle.box_index.specs.declared.index.RowChange.TheVariants as change

-- a row of the code, as the model has it
abbrev pub row_of : BoxRow → LogRow
row_of row = record { uid = row.uid.0; flags = row.flags; time = row.time; size = row.size; map_uid = row.map_uid.0; guid = row.guid.0; words = row.words }

-- a row with other flags, or with other keywords
abbrev pub row_with : RowChange → BoxRow → BoxRow
row_with (change.Flags flags) row = record row { flags = flags }
row_with (change.Words words) row = record row { words = words }

-- a row as it is changed, where it has this UID
abbrev pub changed_row : ℕ → RowChange → BoxRow → BoxRow
changed_row uid change row = if uid == row.uid.0 then row_with change row else row

-- The rows' UIDs rise strictly from the first number on, and lie below the second.
abbrev pub UidsRise : ℕ → List LogRow → ℕ → Type 0
UidsRise low [] next = low ≤ next
UidsRise low (row ∷ rows) next = (low ≤ row.uid) × UidsRise (row.uid + 1) rows next

-- What every index keeps: UIDs rise and lie below the next one, and there is room for both limits.
pub record IsInOrder (m : BoxMeaning) : Type 0 where
  pub rise : UidsRise 1 m.rows m.next
  pub some : 1 ≤ m.next
  pub last : m.next ≤ 4294967295
  pub few : length m.rows ≤ 1000000
