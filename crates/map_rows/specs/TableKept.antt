-- What every table of records keeps, and what a record needs that is added or moved.
use Rattle.std.specs.Prelude.{◌≡◌, ◌≢◌, ◌≤◌, ◌<◌, ◌+◌, ◌==◌, ℕ, List, [], ◌∷◌, length, map, find, Some, All, AllPairs}
use Rattle.mdbox_base.specs.Words.{IsOctets}
use Rattle.mdbox_base.specs.declared.entries.MapPlace.{MapPlace}
use Rattle.model_meaning.specs.MapMeaning.{MapRecord, moved_record, place_given}
use Rattle.model_meaning.specs.MapFits.{IsApart, AgreesOn}
use Rattle.map_rows.specs.declared.order.OrderKey.{OrderKey}
use Rattle.map_rows.specs.Keys.{guid_key, place_key}
use Rattle.map_rows.specs.Orders.{AreKeysOf}

-- A record's region has octets and ends within 4,294,967,295 octets, its GUID is 16 octets, and instances of one id that
-- it names are one.
pub record IsTableRow (row : MapRecord) : Type 0 where
  pub some : 1 ≤ row.size
  pub ends : row.offset + row.size ≤ 4294967295
  pub guid : length row.guid ≡ 16
  pub octets : IsOctets row.guid
  pub agree : AllPairs AgreesOn row.instances

-- regions of one file don't overlap
abbrev pub LieApart : MapRecord → MapRecord → Type 0
LieApart a b = a.file ≡ b.file → IsApart a.offset a.size b

-- instances of one id that two records name are one
abbrev pub NameAlike : MapRecord → MapRecord → Type 0
NameAlike a b = All (λ i. All (AgreesOn i) a.instances) b.instances

-- Map uids rise, GUIDs differ, regions of one file don't overlap, and instances of one id have one hash and one size.
pub record AreTableRows (rows : List MapRecord) : Type 0 where
  pub rising : AllPairs (λ a b. a.uid < b.uid) rows
  pub each : All IsTableRow rows
  pub guids : AllPairs (λ a b. a.guid ≢ b.guid) rows
  pub apart : AllPairs LieApart rows
  pub alike : AllPairs NameAlike rows

-- A record can be added behind these: with a map uid above theirs, a region that overlaps none of theirs, a GUID that
-- none of them has, and instances that have the same hash and size wherever else their ids are named.
pub record FitsBehind (rows : List MapRecord) (row : MapRecord) : Type 0 where
  pub uid_new : All (λ other. other.uid < row.uid) rows
  pub some : 1 ≤ row.size
  pub ends : row.offset + row.size ≤ 4294967295
  pub free : All (λ other. other.file ≡ row.file → IsApart row.offset row.size other) rows
  pub guid_new : All (λ other. other.guid ≢ row.guid) rows
  pub known : All (λ other. All (λ i. All (AgreesOn i) other.instances) row.instances) rows
  pub earlier : AllPairs AgreesOn row.instances

-- A record can be moved to a place: there it ends within 4,294,967,295 octets, and overlaps no region of that file.
abbrev pub FitsMoved : List MapRecord → ℕ → MapPlace → Type 0
FitsMoved rows target place =
    (row : MapRecord) × (find (λ other. other.uid == place.uid.0) rows ≡ Some row) × (place.offset + row.size ≤ 4294967295) × All (λ other. other.file ≡ target → IsApart place.offset row.size other) rows

-- the places are free, one after another
abbrev pub CanMoveEach : List MapRecord → ℕ → List MapPlace → Type 0
CanMoveEach rows target [] = Unit {0}
CanMoveEach rows target (place ∷ places) =
    FitsMoved rows target place × CanMoveEach (map (λ row. moved_record row target (place_given row.uid (place ∷ []))) rows) target places

-- the orders by GUID and by place have the keys of these records
pub record AreIndexed (rows : List MapRecord) (guids places : List OrderKey) : Type 0 where
  pub kept : AreTableRows rows
  pub by_guid : AreKeysOf guid_key guids rows
  pub by_place : AreKeysOf place_key places rows
