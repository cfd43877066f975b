-- Records of the map as the code has them, and look-ups among records.
use Rattle.std.specs.Prelude.{◌≡◌, ◌≢◌, ◌<◌, ◌+◌, ◌-◌, ◌==◌, ◌&&◌, nat_le, find, All, if◌then◌else◌, ℕ, Bool, List, filter, fold, Option, None, Some}
use Rattle.mdbox_base.specs.declared.entries.MapCount.{MapCount}
use Rattle.model_meaning.specs.MapMeaning.{MapRecord, count_given}
use Rattle.map_rows.specs.declared.rows.Record.{Record}

-- a record as the code has it, as the meaning has it
abbrev pub meant_record : Record → MapRecord
meant_record r = record {
  uid = r.row.uid.0;
  origin = r.row.origin;
  count = r.row.count;
  file = r.row.file.0;
  offset = r.row.offset;
  size = r.row.size;
  guid = r.row.guid.0;
  instances = r.instances;
}

-- a record whose count falls by the amount that a list gives for it
abbrev pub lowered_by : List MapCount → MapRecord → MapRecord
lowered_by amounts row = record row { count = row.count - count_given row.uid amounts 0 }

-- a record of this file, at this offset or behind it
abbrev pub is_from : ℕ → ℕ → MapRecord → Bool
is_from file from row = (row.file == file) && nat_le from row.offset

-- of two records the one with the lesser offset
abbrev pub nearer : Option MapRecord → MapRecord → Option MapRecord
nearer None row = Some row
nearer (Some first) row = if nat_le first.offset row.offset then Some first else Some row

-- the record with the least offset
abbrev pub least : List MapRecord → Option MapRecord
least rows = fold nearer None rows

-- of two records the one whose region ends later
abbrev pub later : Option MapRecord → MapRecord → Option MapRecord
later None row = Some row
later (Some last) row = if nat_le (row.offset + row.size) (last.offset + last.size) then Some last else Some row

-- the record of this file whose region ends last
abbrev pub last_ending : ℕ → List MapRecord → Option MapRecord
last_ending file rows = fold later None (filter (λ row. row.file == file) rows)

-- of the records of this file with an offset below this one, the one with the greatest
pub record IsLastBefore (rows : List MapRecord) (file offset : ℕ) (last : MapRecord) : Type 0 where
  pub there : find (λ row. row.uid == last.uid) rows ≡ Some last
  pub in_file : last.file ≡ file
  pub below : last.offset < offset
  pub others : All (λ row. row.file ≡ file → row.offset < offset → row.uid ≢ last.uid → row.offset < last.offset) rows
