-- What the meaning has as look-ups answer it, and the meaning of what the code has.
use Rattle.std.specs.Prelude.{◌+◌, ◌==◌, ◌&&◌, position, if◌then◌else◌, ℕ, Bool, List, map, filter, find, Option}
use Rattle.std.specs.List.{list_any}
use Rattle.std.specs.Str.{bytes_eq}
use Rattle.mdbox_base.specs.declared.entries.Highest.{Highest}
use Rattle.mdbox_base.specs.declared.ids.FileNo.{FileNo}
use Rattle.mdbox_base.specs.declared.ids.StoreId.{StoreId}
use Rattle.model_meaning.specs.MapMeaning.{MapRecord, MapBox, MapMeaning, named_instances}
pub use Rattle.map_rows.specs.declared.rows.MapRow.{MapRow}
use Rattle.map_rows.specs.Lookups.{is_from, least, last_ending}
use Rattle.map_index.specs.declared.rows.BoxAt.{BoxAt}
use Rattle.map_index.specs.declared.rows.Mailbox.{Mailbox}

-- ---- what the meaning has, as look-ups answer it

abbrev pub shown_record : MapRecord → MapRow
shown_record r = record { uid = record { 0 = r.uid }; origin = r.origin; count = r.count; file = record { 0 = r.file }; offset = r.offset; size = r.size; guid = record { 0 = r.guid } }

abbrev pub shown_box : MapBox → BoxAt
shown_box b = record { number = record { 0 = b.number }; generation = b.generation }

abbrev pub shown_file : ℕ → FileNo
shown_file n = record { 0 = n }

-- ---- what the code has, as the meaning has it

abbrev pub box_of : Mailbox → MapBox
box_of b = record { number = b.at.number.0; generation = b.at.generation; name = b.name }

abbrev pub meaning_of : StoreId → List MapRecord → List Mailbox → List FileNo → Highest → MapMeaning
meaning_of store records boxes files most = record {
  store = store.0;
  records = records;
  boxes = map box_of boxes;
  sealed = map (λ f. f.0) files;
  highest = most;
}

-- ---- look-ups

-- the record of this file with the least offset that is at least `from`
abbrev pub record_from : MapMeaning → ℕ → ℕ → Option MapRecord
record_from m file from = least (filter (is_from file from) m.records)

-- the place of the record of a map uid
abbrev pub place_of_record : MapMeaning → ℕ → Option ℕ
place_of_record m uid = position (λ row. row.uid == uid) m.records

-- where a record's region ends, if it lies in this file, else 0
abbrev pub region_end : ℕ → MapRecord → ℕ
region_end file row = if row.file == file then row.offset + row.size else 0

-- the record of this file whose region ends last
abbrev pub last_record : MapMeaning → ℕ → Option MapRecord
last_record m file = last_ending file m.records

-- the mailbox of a name
abbrev pub box_of_name : MapMeaning → List ℕ → Option MapBox
box_of_name m name = find (λ box. bytes_eq box.name name) m.boxes

-- a record names the instance
abbrev pub is_instance_named : MapMeaning → List ℕ → Bool
is_instance_named m id = list_any (λ i. bytes_eq i.id.0 id) (named_instances m)

-- a record names the instance of this hash and id
abbrev pub names_file : MapMeaning → List ℕ → List ℕ → Bool
names_file m hash id = list_any (λ row. list_any (λ i. bytes_eq i.hash.0 hash && bytes_eq i.id.0 id) row.instances) m.records
