-- What the entries of a mailbox log mean.
use Rattle.std.specs.Prelude.{◌≡◌, ◌≤◌, ◌<◌, ◌+◌, ◌==◌, ℕ, max, Bool, false, List, [], ◌∷◌, ◌++◌, length, Option, Some, find, if◌then◌else◌}
use Rattle.mdbox_base.specs.Keywords.{AreWords}
use Rattle.mdbox_base.specs.declared.entries.BoxEntry.{BoxEntry}
use Rattle.mdbox_base.specs.declared.entries.BoxEntry.TheVariants as box
use Rattle.model_meaning.specs.Rows.{Rules, rows_of, rows_by}

-- A message as a mailbox log has it: the octets are those of the map record with this map uid.
pub record LogRow : Type 0 where
  pub uid : ℕ
  pub flags : ℕ
  pub time : ℕ
  pub size : ℕ
  pub map_uid : ℕ
  pub guid : List ℕ
  pub words : List (List ℕ)

-- An Added makes a row, a Removed removes it, a Flagged changes its flags and a Worded its keywords.
abbrev pub row_made : BoxEntry → List LogRow
row_made (box.A uid flags time size map_uid guid words) =
    record { uid = uid.0; flags = flags; time = time; size = size; map_uid = map_uid.0; guid = guid.0; words = words } ∷ []
row_made entry = []

abbrev pub row_removed : BoxEntry → LogRow → Bool
row_removed (box.R uid) row = uid.0 == row.uid
row_removed entry row = false

abbrev pub row_changed : BoxEntry → LogRow → LogRow
row_changed (box.F uid flags) row = if uid.0 == row.uid then record row { flags = flags } else row
row_changed (box.K uid words) row = if uid.0 == row.uid then record row { words = words } else row
row_changed entry row = row

abbrev pub row_rules : Rules BoxEntry LogRow
row_rules = record { made = row_made; removes = row_removed; changed = row_changed }

-- The messages: the Added ones that no later Removed names, in order, each with the flags of the last Flagged and the
-- keywords of the last Worded behind it that name it, else its own.
abbrev pub rows_after : List BoxEntry → List LogRow
rows_after entries = rows_of row_rules entries

-- the number that an entry asks the next UID to be at least
abbrev pub next_named : BoxEntry → ℕ
next_named (box.N next) = next
next_named (box.A uid flags time size map_uid guid words) = uid.0 + 1
next_named entry = 1

-- The next UID: the greatest of 1, each Next, and one more than each Added UID.
abbrev pub next_after : List BoxEntry → ℕ
next_after [] = 1
next_after (entry ∷ rest) = max (next_named entry) (next_after rest)

-- What a mailbox log means: its messages and its next UID.
pub record BoxMeaning : Type 0 where
  pub rows : List LogRow
  pub next : ℕ

abbrev pub box_meaning : List BoxEntry → BoxMeaning
box_meaning entries = record { rows = rows_after entries; next = next_after entries }

-- the meaning with one entry more
abbrev pub box_applied : BoxEntry → BoxMeaning → BoxMeaning
box_applied entry m = record { rows = rows_by row_rules entry m.rows; next = max m.next (next_named entry) }

-- the listed message with this UID
abbrev pub row_at : BoxMeaning → ℕ → Option LogRow
row_at m uid = find (λ row. row.uid == uid) m.rows

-- a message with this UID is listed
abbrev pub IsListedUid : BoxMeaning → ℕ → Type 0
IsListedUid m uid = (row : LogRow) × (row_at m uid ≡ Some row)

-- An entry fits behind entries of this meaning.
abbrev pub BoxFits : BoxMeaning → BoxEntry → Type 0
BoxFits m (box.N next) = (m.next ≤ next) × (1 ≤ next) × (next ≤ 4294967295)
BoxFits m (box.A uid flags time size map_uid guid words) =
    (m.next ≤ uid.0) × (uid.0 ≤ 4294967294) × (flags ≤ 31) × (size ≤ 67108864) × (length m.rows < 1000000) × AreWords words
BoxFits m (box.F uid flags) = IsListedUid m uid.0 × (flags ≤ 31)
BoxFits m (box.K uid words) = IsListedUid m uid.0 × AreWords words
BoxFits m (box.R uid) = IsListedUid m uid.0

-- each entry fits behind those before it
abbrev pub AllBoxFit : List BoxEntry → List BoxEntry → Type 0
AllBoxFit before [] = Unit {0}
AllBoxFit before (entry ∷ rest) = BoxFits (box_meaning before) entry × AllBoxFit (before ++ entry ∷ []) rest
