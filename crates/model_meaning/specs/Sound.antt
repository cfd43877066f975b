-- What the meaning of every log whose entries fit has: numbers in order and in range.
use Rattle.std.specs.Prelude.{◌≡◌, ◌≢◌, ◌<◌, ◌≤◌, ◌+◌, ◌^◌, ℕ, length, All, AllPairs}
use Rattle.mdbox_base.specs.Keywords.{AreWords}
use Rattle.mdbox_base.specs.Words.{IsName, IsOctets, IsNumber}
use Rattle.mdbox_base.specs.declared.entries.Highest.{Highest}
use Rattle.mdbox_base.specs.declared.entries.MapEntry.{MapEntry}
use Rattle.model_logs.specs.Entries.{RowInRange, map_text}
use Rattle.model_meaning.specs.BoxMeaning.{LogRow, BoxMeaning}
use Rattle.model_meaning.specs.MapMeaning.{MapRecord, MapBox, MapMeaning}
use Rattle.model_meaning.specs.MapFits.{IsApart, AgreesOn}

-- a row of a mailbox log, below the next UID
pub record IsSoundRow (next : ℕ) (row : LogRow) : Type 0 where
  pub uid_some : 1 ≤ row.uid
  pub below : row.uid < next
  pub flags : row.flags ≤ 31
  pub time : row.time < 2 ^ 64
  pub size : row.size ≤ 67108864
  pub map_uid : row.map_uid < 2 ^ 32
  pub guid : length row.guid ≡ 16
  pub words : AreWords row.words

-- The meaning of a mailbox log: UIDs rise below the next UID, and there are at most 1,000,000 rows.
pub record IsSoundBox (m : BoxMeaning) : Type 0 where
  pub some : 1 ≤ m.next
  pub fits : m.next ≤ 4294967295
  pub rising : AllPairs (λ a b. a.uid < b.uid) m.rows
  pub rows : All (IsSoundRow m.next) m.rows
  pub room : length m.rows ≤ 1000000

-- a record of the map, up to the highest map uid
pub record IsSoundRecord (highest : ℕ) (row : MapRecord) : Type 0 where
  pub uid : IsNumber row.uid
  pub below : row.uid ≤ highest
  pub origin : row.origin ≤ 1
  pub count : row.count ≤ 65535
  pub file : IsNumber row.file
  pub size : 1 ≤ row.size
  pub ends : row.offset + row.size ≤ 4294967295
  pub guid : length row.guid ≡ 16
  pub instances : All RowInRange row.instances
  pub agree : AllPairs AgreesOn row.instances

-- the instances of two records with one id have one hash and one size
abbrev pub AgreeOnInstances : MapRecord → MapRecord → Type 0
AgreeOnInstances a b = All (λ j. All (AgreesOn j) a.instances) b.instances

-- regions of one file don't overlap
abbrev pub AreApart : MapRecord → MapRecord → Type 0
AreApart a b = a.file ≡ b.file → IsApart a.offset a.size b

-- a mailbox of the map, up to the highest mailbox number
pub record IsSoundMapBox (highest : ℕ) (box : MapBox) : Type 0 where
  pub number : IsNumber box.number
  pub below : box.number ≤ highest
  pub generation : IsNumber box.generation
  pub name : IsName box.name

-- The meaning of a map log: map uids and mailbox numbers rise up to the highest ones, files of records go up to the
-- highest, GUIDs and names differ, instances of one id are one, and regions of one file don't overlap.
pub record IsSoundMap (m : MapMeaning) : Type 0 where
  pub rising : AllPairs (λ a b. a.uid < b.uid) m.records
  pub records : All (IsSoundRecord m.highest.map) m.records
  pub files : All (λ row. row.file ≤ m.highest.file) m.records
  pub guids : AllPairs (λ a b. a.guid ≢ b.guid) m.records
  pub agree : AllPairs AgreeOnInstances m.records
  pub apart : AllPairs AreApart m.records
  pub boxes_rising : AllPairs (λ a b. a.number < b.number) m.boxes
  pub boxes : All (IsSoundMapBox m.highest.mailbox) m.boxes
  pub names : AllPairs (λ a b. a.name ≢ b.name) m.boxes
  pub room : length m.boxes ≤ 1024
  pub sealed : All IsNumber m.sealed
  pub map_high : m.highest.map ≤ 4294967294
  pub mailbox_high : m.highest.mailbox ≤ 4294967294

-- the text of an entry is octets, as it is in every file
abbrev pub HasOctets : MapEntry → Type 0
HasOctets entry = IsOctets (map_text entry)

-- The highest numbers are in range, those that GUIDs and ids of instances name too.
pub record AreInRange (highest : Highest) : Type 0 where
  pub file : highest.file ≤ 4294967294
  pub map : highest.map ≤ 4294967294
  pub instance : highest.instance ≤ 4294967294
  pub mailbox : highest.mailbox ≤ 4294967294
