-- Which entry of the map log fits behind which.
use Rattle.mdbox_base.specs.Words.{IsNumber}
use Rattle.std.specs.Prelude.{◌≡◌, ◌≢◌, ◌<◌, ◌≤◌, ◌+◌, ◌==◌, ℕ, not, List, [], ◌∷◌, ◌++◌, length, map, Some, ◌⊎◌, All, AllPairs, codes}
use Rattle.std.specs.List.{list_any}
use Rattle.std.specs.List.Sorted.{IsStrictlyIncreasing}
use Rattle.std.specs.Option.{option_map_or}
use Rattle.mdbox_base.specs.declared.ids.MapUid.{MapUid}
use Rattle.mdbox_base.specs.declared.entries.InstRow.{InstRow}
use Rattle.mdbox_base.specs.declared.entries.MapCount.{MapCount}
use Rattle.mdbox_base.specs.declared.entries.MapPlace.{MapPlace}
use Rattle.mdbox_base.specs.declared.entries.MapEntry.{MapEntry}
use Rattle.mdbox_base.specs.declared.entries.MapEntry.TheVariants as entry
use Rattle.model_meaning.specs.MapMeaning.{MapRecord, MapBox, MapMeaning, map_meaning, record_at, box_at, has_map_uid}

-- a number is at least the present highest, and in its range
pub record IsRaised (present n : ℕ) : Type 0 where
  pub no_less : present ≤ n
  pub high : n ≤ 4294967294

-- these octets of a file don't overlap the record's region
abbrev pub IsApart : ℕ → ℕ → MapRecord → Type 0
IsApart offset size row = (offset + size ≤ row.offset) ⊎ (row.offset + row.size ≤ offset)

-- no region of this file overlaps these octets
abbrev pub IsFree : MapMeaning → ℕ → ℕ → ℕ → Type 0
IsFree m file offset size = All (λ row. row.file ≡ file → IsApart offset size row) m.records

-- the map uid has a record
abbrev pub IsKnown : MapMeaning → ℕ → Type 0
IsKnown m uid = (row : MapRecord) × (record_at m uid ≡ Some row)

-- the map uid has a record, and this holds of it
abbrev pub HasRecord : MapMeaning → ℕ → (MapRecord → Type 0) → Type 0
HasRecord m uid Holds = (row : MapRecord) × (record_at m uid ≡ Some row) × Holds row

-- instances of one id have one hash and one size
abbrev pub AgreesOn : InstRow → InstRow → Type 0
AgreesOn a b = a.id ≡ b.id → (a.hash ≡ b.hash) × (a.size ≡ b.size)

-- A new record's place: a file, and a region that ends within 4,294,967,295 octets and overlaps no other.
pub record FitsRegion (m : MapMeaning) (file offset size : ℕ) : Type 0 where
  pub file_number : IsNumber file
  pub some : 1 ≤ size
  pub ends : offset + size ≤ 4294967295
  pub free : IsFree m file offset size

-- A message can be stored: with a map uid above the highest, a free region, a GUID that no record has, and instances
-- that have the same hash and size wherever else their ids are named, in a record or earlier in this list.
pub record FitsStored (m : MapMeaning) (origin uid file offset size : ℕ) (guid : List ℕ) (instances : List InstRow) : Type 0 where
  pub known_origin : origin ≤ 1
  pub uid_number : IsNumber uid
  pub uid_new : m.highest.map < uid
  pub region : FitsRegion m file offset size
  pub guid_new : All (λ row. row.guid ≢ guid) m.records
  pub known : All (λ row. All (λ i. All (AgreesOn i) row.instances) instances) m.records
  pub earlier : AllPairs AgreesOn instances

-- A mailbox can be made.
pub record FitsMade (m : MapMeaning) (number generation : ℕ) (name : List ℕ) : Type 0 where
  pub box_number : IsNumber number
  pub box_new : m.highest.mailbox < number
  pub first : IsNumber generation
  pub name_new : All (λ box. box.name ≢ name) m.boxes
  pub room : length m.boxes < 1024

-- the map has a mailbox with this number, and this holds of it
abbrev pub HasMapBox : MapMeaning → ℕ → (MapBox → Type 0) → Type 0
HasMapBox m number Holds = (box : MapBox) × (box_at m number ≡ Some box) × Holds box

-- A mailbox can leave: it is there, and of each record whose count falls with it, the count is as much at least.
pub record FitsDeleted (m : MapMeaning) (number : ℕ) (amounts : List MapCount) : Type 0 where
  pub there : HasMapBox m number (λ box. Unit {0})
  pub rising : IsStrictlyIncreasing (map (λ c. c.uid.0) amounts)
  pub counts : All (λ c. HasRecord m c.uid.0 (λ row. (1 ≤ c.count) × (c.count ≤ row.count))) amounts

-- A mailbox can have another name: it is there, it isn't INBOX, and no mailbox has the name.
pub record FitsRenamed (m : MapMeaning) (number : ℕ) (name : List ℕ) : Type 0 where
  pub there : HasMapBox m number (λ box. box.name ≢ codes "INBOX")
  pub name_new : All (λ box. box.name ≢ name) m.boxes

-- a record of the file is moved or dropped, and not both
abbrev pub IsMovedOrDropped : List MapPlace → List MapUid → MapRecord → Type 0
IsMovedOrDropped moved dropped row = list_any (λ p. p.uid.0 == row.uid) moved ≡ not (has_map_uid row.uid dropped)

-- a moved region ends within 4,294,967,295 octets, and overlaps no region of the target
abbrev pub FitsPlace : MapMeaning → ℕ → MapPlace → Type 0
FitsPlace m target place = HasRecord m place.uid.0 (λ row. (place.offset + row.size ≤ 4294967295) × IsFree m target place.offset row.size)

-- the size of a record's region
abbrev pub size_at : MapMeaning → ℕ → ℕ
size_at m uid = option_map_or (λ row. row.size) (record_at m uid) 0

-- two moved regions don't overlap
abbrev pub ArePlacedApart : MapMeaning → MapPlace → MapPlace → Type 0
ArePlacedApart m a b = (a.offset + size_at m a.uid.0 ≤ b.offset) ⊎ (b.offset + size_at m b.uid.0 ≤ a.offset)

-- The target is 0 if and only if nothing is moved, else another file with room for what is moved.
abbrev pub FitsTarget : MapMeaning → ℕ → ℕ → List MapPlace → Type 0
FitsTarget m file target [] = target ≡ 0
FitsTarget m file target (place ∷ moved) =
    IsNumber target × (target ≢ file) × All (FitsPlace m target) (place ∷ moved) × AllPairs (ArePlacedApart m) (place ∷ moved)

-- The records of a file can be moved and dropped: the two lists are together exactly the records of the file, each in
-- rising order of map uid, and the counts of those dropped are 0.
pub record FitsPurged (m : MapMeaning) (file target : ℕ) (moved : List MapPlace) (dropped : List MapUid) : Type 0 where
  pub file_number : IsNumber file
  pub moved_rising : IsStrictlyIncreasing (map (λ p. p.uid.0) moved)
  pub dropped_rising : IsStrictlyIncreasing (map (λ u. u.0) dropped)
  pub moved_here : All (λ p. HasRecord m p.uid.0 (λ row. row.file ≡ file)) moved
  pub dropped_here : All (λ u. HasRecord m u.0 (λ row. (row.file ≡ file) × (row.count ≡ 0))) dropped
  pub each : All (λ row. row.file ≡ file → IsMovedOrDropped moved dropped row) m.records
  pub target_fits : FitsTarget m file target moved

-- An entry fits behind entries of this meaning.
abbrev pub MapFits : MapMeaning → MapEntry → Type 0
MapFits m (entry.H h) = IsRaised m.highest.file h.file × IsRaised m.highest.map h.map × IsRaised m.highest.instance h.instance × IsRaised m.highest.mailbox h.mailbox
MapFits m (entry.B mailbox generation name) = FitsMade m mailbox.0 generation name
MapFits m (entry.G mailbox generation) =
    IsNumber mailbox.0 × IsNumber generation × ((box : MapBox) × (box_at m mailbox.0 ≡ Some box) × (box.generation < generation))
MapFits m (entry.S origin count uid file offset size guid instances) = FitsStored m origin uid.0 file.0 offset size guid.0 instances
MapFits m (entry.U uid) = HasRecord m uid.0 (λ row. (1 ≤ row.count) × (row.count ≤ 65534))
MapFits m (entry.D uids) = IsStrictlyIncreasing (map (λ u. u.0) uids) × All (λ u. HasRecord m u.0 (λ row. 1 ≤ row.count)) uids
MapFits m (entry.T counts) = IsStrictlyIncreasing (map (λ c. c.uid.0) counts) × All (λ c. IsKnown m c.uid.0) counts
MapFits m (entry.P file target moved dropped) = FitsPurged m file.0 target moved dropped
MapFits m (entry.E file) = IsNumber file.0
MapFits m (entry.X mailbox amounts) = FitsDeleted m mailbox.0 amounts
MapFits m (entry.V mailbox name) = FitsRenamed m mailbox.0 name

-- each entry fits behind those before it
abbrev pub AllMapFit : List ℕ → List MapEntry → List MapEntry → Type 0
AllMapFit store before [] = Unit {0}
AllMapFit store before (entry ∷ rest) = MapFits (map_meaning store before) entry × AllMapFit store (before ++ entry ∷ []) rest
