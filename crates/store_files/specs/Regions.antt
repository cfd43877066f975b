-- The regions of records in one storage file.
use Rattle.std.specs.Prelude.{◌==◌, ℕ, Bool, List, map, Option, Some, None, if◌then◌else◌}
use Rattle.std.specs.List.{list_any}
use Rattle.map_index.specs.Shown.{region_end}
use Rattle.model_meaning.specs.MapMeaning.{MapMeaning, greatest}

-- the storage file of each record's region
abbrev pub region_numbers : MapMeaning → List ℕ
region_numbers m = map (λ row. row.file) m.records

-- a record's region lies in this storage file
abbrev pub has_region : MapMeaning → ℕ → Bool
has_region m number = list_any (λ row. row.file == number) m.records

-- where the last region of a storage file ends, or 0
abbrev pub end_of : MapMeaning → ℕ → ℕ
end_of m number = greatest (region_end number) m.records

-- the same, None of a file without a region
abbrev pub last_end : MapMeaning → ℕ → Option ℕ
last_end m number = if has_region m number then Some (end_of m number) else None
