-- Storage files to which nothing is added until the next opening. A GUID that a store gives has its id, the number of a
-- storage file, and the offset there where the message was first stored. A storage file that ends at such an offset or before
-- it would have that offset given out a second time.
use Rattle.std.specs.Prelude.{◌==◌, ◌&&◌, nat_le, ℕ, Bool, true, List, map, if◌then◌else◌}
use Rattle.std.specs.List.{list_any}
use Rattle.model_meaning.specs.MapMeaning.{MapMeaning, is_own, number_at}
use Rattle.storage_files.specs.declared.file.FileState.{FileState}

-- the GUID has the id of this store, the number of this file, and an offset at this end or past it
abbrev pub names_past : List ℕ → ℕ → ℕ → List ℕ → Bool
names_past store number end guid = is_own store guid && (number_at 8 guid == number) && nat_le end (number_at 12 guid)

-- a storage file that ends there is barred: the GUID of a record names it at its end or past it
abbrev pub is_barred : MapMeaning → ℕ → ℕ → Bool
is_barred m number end = list_any (λ row. names_past m.store number end row.guid) m.records

-- a file, barred if this GUID, or that of a record, bars it

abbrev pub barred_by : List ℕ → List ℕ → FileState → FileState
barred_by store guid s = if names_past store s.file.0 s.end guid then record s { barred = true } else s

abbrev pub barred_in : MapMeaning → FileState → FileState
barred_in m s = if is_barred m s.file.0 s.end then record s { barred = true } else s

-- each file so
abbrev pub all_barred : MapMeaning → List FileState → List FileState
all_barred m states = map (barred_in m) states
