-- What the entries of the map log mean.
use Rattle.std.specs.Prelude.{◌+◌, ◌-◌, ◌==◌, nat_lt, ℕ, max, Bool, false, not, List, [], ◌∷◌, flat_map, fold, find, if◌then◌else◌, Option, Some, None, ◌&&◌, take, drop}
use Rattle.std.specs.List.{list_any}
use Rattle.std.specs.Option.{option_map_or}
use Rattle.std.specs.Str.{bytes_eq}
use Rattle.std.specs.Int.{w32, from_be_bytes}
use Rattle.mdbox_base.specs.declared.ids.MapUid.{MapUid}
use Rattle.mdbox_base.specs.declared.entries.Highest.{Highest}
use Rattle.mdbox_base.specs.declared.entries.InstRow.{InstRow}
use Rattle.mdbox_base.specs.declared.entries.MapCount.{MapCount}
use Rattle.mdbox_base.specs.declared.entries.MapPlace.{MapPlace}
use Rattle.mdbox_base.specs.declared.entries.MapEntry.{MapEntry}
use Rattle.mdbox_base.specs.declared.entries.MapEntry.TheVariants as map
use Rattle.model_meaning.specs.Rows.{Rules, rows_of, rows_by}

-- A record of the map: a stored message, how often it is referred to, and its region, which is `size` octets of a
-- storage file from `offset` on. Origin 0 is stored, 1 is found by a rebuild.
pub record MapRecord : Type 0 where
  pub uid : ℕ
  pub origin : ℕ
  pub count : ℕ
  pub file : ℕ
  pub offset : ℕ
  pub size : ℕ
  pub guid : List ℕ
  pub instances : List InstRow

-- the list has this map uid
abbrev pub has_map_uid : ℕ → List MapUid → Bool
has_map_uid uid uids = list_any (λ u. u.0 == uid) uids

-- the count that a list gives this map uid, else the old one
abbrev pub count_given : ℕ → List MapCount → ℕ → ℕ
count_given uid counts old = option_map_or (λ c. c.count) (find (λ c. c.uid.0 == uid) counts) old

-- the place that a list gives this map uid
abbrev pub place_given : ℕ → List MapPlace → Option MapPlace
place_given uid moved = find (λ m. m.uid.0 == uid) moved

abbrev pub moved_record : MapRecord → ℕ → Option MapPlace → MapRecord
moved_record row target None = row
moved_record row target (Some place) = record row { file = target; offset = place.offset }

-- An `S` makes a record, a `P` drops or moves it, `T`, `U`, `D` and `X` change its count.
abbrev pub record_made : MapEntry → List MapRecord
record_made (map.S origin count uid file offset size guid instances) =
    record { uid = uid.0; origin = origin; count = count; file = file.0; offset = offset; size = size; guid = guid.0; instances = instances } ∷ []
record_made entry = []

abbrev pub record_dropped : MapEntry → MapRecord → Bool
record_dropped (map.P file target moved dropped) row = has_map_uid row.uid dropped
record_dropped entry row = false

abbrev pub record_changed : MapEntry → MapRecord → MapRecord
record_changed (map.U uid) row = if uid.0 == row.uid then record row { count = row.count + 1 } else row
record_changed (map.D uids) row = if has_map_uid row.uid uids then record row { count = row.count - 1 } else row
record_changed (map.T counts) row = record row { count = count_given row.uid counts row.count }
record_changed (map.P file target moved dropped) row = moved_record row target (place_given row.uid moved)
record_changed (map.X mailbox amounts) row = record row { count = row.count - count_given row.uid amounts 0 }
record_changed entry row = row

abbrev pub record_rules : Rules MapEntry MapRecord
record_rules = record { made = record_made; removes = record_dropped; changed = record_changed }

-- The records: one for each `S` that no later `P` drops, in order, with its count and its place after the later entries.
abbrev pub records_after : List MapEntry → List MapRecord
records_after entries = rows_of record_rules entries

-- A mailbox of the map: its log is `Box(number, generation)`.
pub record MapBox : Type 0 where
  pub number : ℕ
  pub generation : ℕ
  pub name : List ℕ

abbrev pub box_made : MapEntry → List MapBox
box_made (map.B mailbox generation name) = record { number = mailbox.0; generation = generation; name = name } ∷ []
box_made entry = []

abbrev pub box_removed : MapEntry → MapBox → Bool
box_removed (map.X mailbox amounts) box = mailbox.0 == box.number
box_removed entry box = false

abbrev pub box_changed : MapEntry → MapBox → MapBox
box_changed (map.G mailbox generation) box = if mailbox.0 == box.number then record box { generation = generation } else box
box_changed (map.V mailbox name) box = if mailbox.0 == box.number then record box { name = name } else box
box_changed entry box = box

abbrev pub box_rules : Rules MapEntry MapBox
box_rules = record { made = box_made; removes = box_removed; changed = box_changed }

-- The mailboxes, in the order in which they were made: one for each `B` that no later `X` names, with the name of the last
-- `B` or `V` and the generation of the last `B` or `G` that names it.
abbrev pub boxes_after : List MapEntry → List MapBox
boxes_after entries = rows_of box_rules entries

-- a set of numbers, as a rising list, with one number more
abbrev pub with_number : ℕ → List ℕ → List ℕ
with_number n [] = n ∷ []
with_number n (m ∷ rest) = if nat_lt n m then n ∷ m ∷ rest else (if n == m then m ∷ rest else m ∷ with_number n rest)

abbrev pub sealed_by : MapEntry → List ℕ → List ℕ
sealed_by (map.E file) files = with_number file.0 files
sealed_by entry files = files

-- The sealed files, in order of number: those that an `E` names.
abbrev pub sealed_after : List MapEntry → List ℕ
sealed_after entries = fold (λ files entry. sealed_by entry files) [] entries

-- the number that four octets at a place spell
abbrev pub number_at : ℕ → List ℕ → ℕ
number_at place octets = from_be_bytes w32 (take 4 (drop place octets))

-- an id begins with this store's id
abbrev pub is_own : List ℕ → List ℕ → Bool
is_own store id = bytes_eq (take 8 id) store

-- a number that counts: an own one that isn't FF FF FF FF, else 0
abbrev pub own_number : Bool → ℕ → ℕ
own_number own n = if own && not (n == 4294967295) then n else 0

-- the file number of a GUID of this store
abbrev pub guid_file : List ℕ → List ℕ → ℕ
guid_file store guid = own_number (is_own store guid) (number_at 8 guid)

-- the running number of an instance id of this store's form
abbrev pub instance_number : List ℕ → List ℕ → ℕ
instance_number store id = own_number (is_own store id && (number_at 8 id == 4294967295)) (number_at 12 id)

-- the greatest number of these, or 0
abbrev pub greatest : {X : Type 0} → (X → ℕ) → List X → ℕ
greatest f xs = fold (λ most x. max most (f x)) 0 xs

abbrev pub no_numbers : Highest
no_numbers = record { file = 0; map = 0; instance = 0; mailbox = 0 }

-- the greatest numbers that an entry names
abbrev pub numbers_of : List ℕ → MapEntry → Highest
numbers_of store (map.H highest) = highest
numbers_of store (map.B mailbox generation name) = record no_numbers { mailbox = mailbox.0 }
numbers_of store (map.G mailbox generation) = record no_numbers { mailbox = mailbox.0 }
numbers_of store (map.S origin count uid file offset size guid instances) = record {
  file = max file.0 (guid_file store guid.0);
  map = uid.0;
  instance = greatest (λ i. instance_number store i.id.0) instances;
  mailbox = 0;
}
numbers_of store (map.U uid) = record no_numbers { map = uid.0 }
numbers_of store (map.D uids) = record no_numbers { map = greatest (λ u. u.0) uids }
numbers_of store (map.T counts) = record no_numbers { map = greatest (λ c. c.uid.0) counts }
numbers_of store (map.P file target moved dropped) =
    record no_numbers { file = max file.0 target; map = max (greatest (λ p. p.uid.0) moved) (greatest (λ u. u.0) dropped) }
numbers_of store (map.E file) = record no_numbers { file = file.0 }
numbers_of store (map.X mailbox amounts) = record no_numbers { map = greatest (λ c. c.uid.0) amounts; mailbox = mailbox.0 }
numbers_of store (map.V mailbox name) = record no_numbers { mailbox = mailbox.0 }

-- the greater of each two
abbrev pub higher : Highest → Highest → Highest
higher a b = record { file = max a.file b.file; map = max a.map b.map; instance = max a.instance b.instance; mailbox = max a.mailbox b.mailbox }

-- The highest numbers: the greatest that entries name.
abbrev pub highest_after : List ℕ → List MapEntry → Highest
highest_after store entries = fold (λ most entry. higher most (numbers_of store entry)) no_numbers entries

-- What the entries of a map log mean, in the store with this id.
pub record MapMeaning : Type 0 where
  pub store : List ℕ
  pub records : List MapRecord
  pub boxes : List MapBox
  pub sealed : List ℕ
  pub highest : Highest

abbrev pub map_meaning : List ℕ → List MapEntry → MapMeaning
map_meaning store entries = record {
  store = store;
  records = records_after entries;
  boxes = boxes_after entries;
  sealed = sealed_after entries;
  highest = highest_after store entries;
}

-- the meaning with one entry more
abbrev pub map_applied : MapEntry → MapMeaning → MapMeaning
map_applied entry m = record {
  store = m.store;
  records = rows_by record_rules entry m.records;
  boxes = rows_by box_rules entry m.boxes;
  sealed = sealed_by entry m.sealed;
  highest = higher m.highest (numbers_of m.store entry);
}

-- the record of a map uid, and that of a GUID
abbrev pub record_at : MapMeaning → ℕ → Option MapRecord
record_at m uid = find (λ row. row.uid == uid) m.records

abbrev pub record_of : MapMeaning → List ℕ → Option MapRecord
record_of m guid = find (λ row. bytes_eq row.guid guid) m.records

-- the count that is kept of a GUID: that of its record, else 0
abbrev pub count_of : MapMeaning → List ℕ → ℕ
count_of m guid = option_map_or (λ row. row.count) (record_of m guid) 0

-- the mailbox of a number
abbrev pub box_at : MapMeaning → ℕ → Option MapBox
box_at m number = find (λ box. box.number == number) m.boxes

-- and the one of a name
abbrev pub box_named : MapMeaning → List ℕ → Option MapBox
box_named m name = find (λ box. bytes_eq box.name name) m.boxes

-- the instances that records name, once for each naming
abbrev pub named_instances : MapMeaning → List InstRow
named_instances m = flat_map (λ row. row.instances) m.records

-- a file is sealed
abbrev pub is_sealed : MapMeaning → ℕ → Bool
is_sealed m file = list_any (λ f. f == file) m.sealed

-- an entry seals this file
abbrev pub seals : ℕ → MapEntry → Bool
seals file (map.E sealed) = sealed.0 == file
seals file entry = false
