-- Rows of rising UIDs, in pieces.
use Rattle.std.specs.Prelude.{◌≢◌, ◌<◌, ◌≤◌, ◌+◌, ℕ, Bool, false, nat_le, List, [], ◌∷◌, length, map, take, drop, All}
use Rattle.std.specs.List.{flat_map}
use Rattle.box_index.specs.declared.index.BoxRow.{BoxRow}
use Rattle.box_index.specs.Row.{row_of, UidsRise}

-- rows in order, and how many more can be added without memory
pub record HeldRows : Type 0 where
  pub rows : List BoxRow
  pub room : ℕ

-- the rows of the pieces, one piece after another
abbrev pub rows_in : List HeldRows → List BoxRow
rows_in pieces = flat_map (λ piece. piece.rows) pieces

-- no piece is empty
abbrev pub AreFilled : List HeldRows → Type 0
AreFilled pieces = All (λ piece. 1 ≤ length piece.rows) pieces

-- the UIDs rise strictly
abbrev pub AreRising : List BoxRow → Type 0
AreRising rows = (low : ℕ) × (next : ℕ) × UidsRise low (map row_of rows) next

-- no row has this UID
abbrev pub LacksUid : ℕ → List BoxRow → Type 0
LacksUid uid rows = All (λ row. uid ≢ row.uid.0) rows

-- there is a first row, and its UID is this one or one below
abbrev pub begins_by : ℕ → List BoxRow → Bool
begins_by uid [] = false
begins_by uid (row ∷ rows) = nat_le row.uid.0 uid

-- if any piece has a row with this UID, the one at this place
abbrev pub IsOnlyIn : ℕ → List HeldRows → ℕ → Type 0
IsOnlyIn uid pieces place = (place < length pieces) × LacksUid uid (rows_in (take place pieces)) × LacksUid uid (rows_in (drop (place + 1) pieces))
