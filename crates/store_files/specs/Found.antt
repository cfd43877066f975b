-- The storage files of a store as an opening finds them: as they stand once its disk is swept.
use Rattle.std.specs.Prelude.{◌≡◌, ◌≢◌, ◌==◌, ◌<◌, ◌≤◌, ℕ, true, false, List, length, map, find, All, AllPairs, Option, codes}
use Rattle.std.specs.Option.{option_map}
use Rattle.disk_model.specs.Disk.{DiskState, History, IfTold, reading}
use Rattle.disk_model.specs.declared.name.FileName.TheVariants.{Mail}
use Rattle.model_meaning.specs.MapMeaning.{MapMeaning, is_sealed}
use Rattle.storage_files.specs.Files.{FilesValue, file_found}
use Rattle.storage_files.specs.declared.file.FileState.{FileState}
use Rattle.store_files.specs.Barred.{is_barred}
use Rattle.store_files.specs.Regions.{last_end}
use Rattle.store_files.specs.declared.error.FilesError.{FilesError}
use Rattle.store_files.specs.declared.error.FilesError.TheVariants as files_error

-- how long a storage file is on a disk, None where it isn't there
abbrev pub length_on : DiskState → ℕ → Option ℕ
length_on disk number = option_map length (reading (disk (Mail number)))

-- where the file with this number ends, None where it isn't among them
abbrev pub end_found : ℕ → List FileState → Option ℕ
end_found number states = option_map (λ s. s.end) (find (λ s. s.file.0 == number) states)

-- Where the storage file with this number ends once the disk is swept, None if it isn't there then: one that isn't sealed ends
-- with its last region, and a sealed one where it does on the disk.
pub record IsFoundEnd (m : MapMeaning) (history : Option History) (number : ℕ) (end : Option ℕ) : Type 0 where
  pub unsealed : is_sealed m number ≡ false → end ≡ last_end m number
  pub sealed : is_sealed m number ≡ true → IfTold history (λ disk. end ≡ length_on disk number)

-- the file is sealed as the map says, and isn't barred yet
abbrev pub IsUnbarred : MapMeaning → FileState → Type 0
IsUnbarred m s = (s.sealed ≡ is_sealed m s.file.0) × (s.barred ≡ false)

-- the file is sealed and barred as the map says
abbrev pub IsMarked : MapMeaning → FileState → Type 0
IsMarked m s = (s.sealed ≡ is_sealed m s.file.0) × (s.barred ≡ is_barred m s.file.0 s.end)

-- The storage files that are there once the disk is swept, in order of number.
pub record AreFilesFound (m : MapMeaning) (history : Option History) (states : List FileState) : Type 0 where
  pub rising : AllPairs (λ a b. a.file.0 < b.file.0) states
  pub ends : (number : ℕ) → IsFoundEnd m history number (end_found number states)
  pub marks : All (IsMarked m) states

-- What an opening makes of them: nobody has taken a file, the greatest number drawn is that of the map, and there is no room
-- yet for taking more.
pub record IsFoundFiles (m : MapMeaning) (history : Option History) (value : FilesValue) : Type 0 where
  pub states : List FileState
  pub found : AreFilesFound m history states
  pub is : value ≡ record { files = map file_found states; highest = m.highest.file; spare = 0 }

-- The highest file number is at least that of each file in which a record has its region or that is sealed, and is one.
pub record HasHighestFile (m : MapMeaning) : Type 0 where
  pub regions : All (λ row. row.file ≤ m.highest.file) m.records
  pub sealed : All (λ number. number ≤ m.highest.file) m.sealed
  pub last : m.highest.file ≢ 4294967295

-- what an error says when it is printed
abbrev pub files_error_text : FilesError → List ℕ
files_error_text files_error.DiskFault = codes "disk fault"
files_error_text files_error.NoMemory = codes "out of memory"
