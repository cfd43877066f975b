-- The storage files that a resync reads.
use Rattle.std.specs.Prelude.{◌≡◌, ◌<◌, ℕ, true, List, All, AllPairs, Contains}
use Rattle.model_meaning.specs.MapMeaning.{MapRecord, MapMeaning}
use Rattle.journal.specs.Found.{is_named_file}

-- the file of a record's region
abbrev pub region_file : MapRecord → ℕ
region_file row = row.file

-- These are the files in which records have their regions, each once, in order of number.
pub record AreRecordFiles (m : MapMeaning) (files : List ℕ) : Type 0 where
  pub rising : AllPairs (λ a b. a < b) files
  pub named : All (λ file. is_named_file m file ≡ true) files
  pub every : All (λ row. Contains files row.file) m.records
