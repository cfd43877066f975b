-- What the records need so that an entry can be taken in.
use Rattle.std.specs.Prelude.{◌≡◌, ◌≤◌, List, map, All}
use Rattle.std.specs.List.Sorted.{IsStrictlyIncreasing}
use Rattle.mdbox_base.specs.declared.entries.MapEntry.{MapEntry}
use Rattle.mdbox_base.specs.declared.entries.MapEntry.TheVariants as entry
use Rattle.model_meaning.specs.MapMeaning.{MapRecord}
use Rattle.map_rows.specs.TableKept.{FitsBehind, CanMoveEach}

-- A record that is stored fits behind the others, a count that rises stays in its range, lists name their records in order
-- of map uid, and the places of moved records are free.
abbrev pub FitsTable : MapEntry → List MapRecord → Type 0
FitsTable (entry.S origin count uid file offset size guid instances) rows =
    FitsBehind rows (record { uid = uid.0; origin = origin; count = count; file = file.0; offset = offset; size = size; guid = guid.0; instances = instances })
FitsTable (entry.U uid) rows = All (λ row. uid.0 ≡ row.uid → row.count ≤ 65534) rows
FitsTable (entry.D uids) rows = IsStrictlyIncreasing (map (λ u. u.0) uids)
FitsTable (entry.T counts) rows = IsStrictlyIncreasing (map (λ c. c.uid.0) counts)
FitsTable (entry.X mailbox amounts) rows = IsStrictlyIncreasing (map (λ c. c.uid.0) amounts)
FitsTable (entry.P file target moved dropped) rows = IsStrictlyIncreasing (map (λ p. p.uid.0) moved) × IsStrictlyIncreasing (map (λ u. u.0) dropped) × CanMoveEach rows target moved
FitsTable other rows = Unit {0}

-- the entry makes a mailbox, gives it another name, stores a message or seals a file
abbrev pub TakesMemory : MapEntry → Type 0
TakesMemory (entry.B mailbox generation name) = Unit {0}
TakesMemory (entry.S origin count uid file offset size guid instances) = Unit {0}
TakesMemory (entry.E file) = Unit {0}
TakesMemory (entry.V mailbox name) = Unit {0}
TakesMemory other = ⊥
