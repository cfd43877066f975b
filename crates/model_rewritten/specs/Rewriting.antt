-- The entries of logs that are written anew.
use Rattle.std.specs.Prelude.{◌≡◌, ◌<◌, ◌≤◌, ◌+◌, ◌^◌, ◌==◌, ℕ, List, [], ◌∷◌, ◌++◌, length, map, fold, if◌then◌else◌, All, AllPairs}
use Rattle.std.specs.List.{AllByRecursion}
use Rattle.mdbox_base.specs.declared.entries.BoxEntry.{BoxEntry}
use Rattle.mdbox_base.specs.declared.entries.BoxEntry.TheVariants as box
use Rattle.mdbox_base.specs.declared.entries.MapEntry.{MapEntry}
use Rattle.mdbox_base.specs.declared.entries.MapEntry.TheVariants as map_entry
use Rattle.model_logs.specs.Entries.{BoxInRange, MapInRange}
use Rattle.model_meaning.specs.BoxMeaning.{LogRow, BoxMeaning, box_meaning, AllBoxFit}
use Rattle.model_meaning.specs.MapFits.{AllMapFit}
use Rattle.model_meaning.specs.MapMeaning.{MapRecord, MapBox, MapMeaning, map_meaning, guid_file, instance_number, greatest}

-- ---- a mailbox log

-- the entry that adds a row as it stands
abbrev pub row_entry : LogRow → BoxEntry
row_entry row = box.A (record { 0 = row.uid }) row.flags row.time row.size (record { 0 = row.map_uid }) (record { 0 = row.guid }) row.words

-- one more than the last of these UIDs, or the first number where there is none
abbrev pub next_from : ℕ → List LogRow → ℕ
next_from next rows = fold (λ next row. row.uid + 1) next rows

-- An Added for each message, in UID order, with its present flags and keywords; then a Next, if the next UID isn't one
-- more than the last message's.
abbrev pub box_snapshot : BoxMeaning → List BoxEntry
box_snapshot m = map row_entry m.rows ++ (if next_from 1 m.rows == m.next then [] else box.N m.next ∷ [])

-- Entries of a mailbox log that mean this, and fit one behind another: at most one more than there are messages.
pub record IsRewrittenBox (m : BoxMeaning) (entries : List BoxEntry) : Type 0 where
  pub means : box_meaning entries ≡ m
  pub fit : AllBoxFit [] entries
  pub in_range : AllByRecursion BoxInRange entries
  pub few : length entries ≤ length m.rows + 1

-- ---- the map log

abbrev pub made_entry : MapBox → MapEntry
made_entry b = map_entry.B (record { 0 = b.number }) b.generation b.name

abbrev pub stored_again : MapRecord → MapEntry
stored_again row = map_entry.S row.origin row.count (record { 0 = row.uid }) (record { 0 = row.file }) row.offset row.size (record { 0 = row.guid }) row.instances

abbrev pub seal_entry : ℕ → MapEntry
seal_entry file = map_entry.E (record { 0 = file })

-- A `B` for each mailbox that there is, with its present name, an `S` for each record with its present count and place, an `E`
-- for each sealed file; then the highest numbers, so that none is given again: they come last, since a `B` fits only above the
-- highest mailbox number before it, and an `S` above the highest map uid.
abbrev pub map_snapshot : MapMeaning → List MapEntry
map_snapshot m = map made_entry m.boxes ++ (map stored_again m.records ++ (map seal_entry m.sealed ++ map_entry.H m.highest ∷ []))

-- No record, instance or sealed file names a number above the highest, and sealed files rise.
pub record NamesUpTo (m : MapMeaning) : Type 0 where
  pub guids : All (λ row. guid_file m.store row.guid ≤ m.highest.file) m.records
  pub instances : All (λ row. greatest (λ i. instance_number m.store i.id.0) row.instances ≤ m.highest.instance) m.records
  pub sealed : All (λ n. n ≤ m.highest.file) m.sealed
  pub rising : AllPairs (λ a b. a < b) m.sealed

-- a record has as many instances as its entry can name
abbrev pub HasFew : MapRecord → Type 0
HasFew row = length row.instances < 2 ^ 16

-- Entries of a map log that mean this, in the store with this id, and fit one behind another: one for each mailbox, record and
-- sealed file, and one more.
pub record IsRewrittenMap (m : MapMeaning) (entries : List MapEntry) : Type 0 where
  pub means : map_meaning m.store entries ≡ m
  pub fit : AllMapFit m.store [] entries
  pub in_range : AllByRecursion MapInRange entries
  pub few : length entries ≡ length m.boxes + length m.records + length m.sealed + 1
