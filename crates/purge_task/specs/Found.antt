-- What a purge finds: what a storage file holds by the map, and which files it empties.
use Rattle.std.specs.Prelude.{◌≡◌, ◌≢◌, ◌≤◌, ◌<◌, ◌+◌, ◌==◌, ◌⊎◌, ℕ, true, false, List, [], ◌++◌, length, take, map, count_by, sum_by, if◌then◌else◌, Option, Some, None, is_none, IsSome, All, Contains, nat_lt, ◌&&◌, ◌||◌}
use Rattle.std.specs.List.{list_any}
use Rattle.std.specs.Option.{option_or, option_to_list}
use Rattle.std.specs.List.Sorted.{IsStrictlyIncreasing}
use Rattle.disk_model.specs.Disk.{History, IfTold}
use Rattle.journal.specs.QuietPurge.{IsCleanFile, RunTo}
use Rattle.list_machine.specs.Run.{is_copied_from, target_length}
use Rattle.mdbox_base.specs.declared.replies.Refusal.{Refusal}
use Rattle.mdbox_base.specs.declared.replies.Refusal.TheVariants as refusal
use Rattle.model_meaning.specs.MapMeaning.{MapRecord, MapMeaning, greatest}
use Rattle.model_storage.specs.StorageFile.{IsHeaderLine}
use Rattle.model_store.specs.Settled.{files_of}
use Rattle.storage_files.specs.declared.file.MailFile.{MailFile}
use Rattle.storage_files.specs.Files.{IsUntakenFile, end_in, file_in}
use Rattle.store_core.specs.Value.{StoreValue}
use Rattle.map_rows.specs.declared.rows.MapRow.{MapRow}
use Rattle.purge_task.specs.declared.contents.Contents.{Contents}
use Rattle.purge_task.specs.declared.finding.Found.{Found}
use Rattle.purge_task.specs.declared.finding.FoundFile.{FoundFile}

-- ---- what a file holds by the map

-- how many records have their regions in a file, and how many octets the wanted ones have
abbrev pub messages_in : MapMeaning → ℕ → ℕ
messages_in m file = count_by (λ row. row.file == file) m.records

abbrev pub wanted_octets : MapMeaning → ℕ → ℕ
wanted_octets m file = sum_by (λ row. if is_copied_from file row then row.size else 0) m.records

-- These are all records of the file, each is wanted, and their regions stand one directly after another, from one place to the other.
pub record AreInRow (m : MapMeaning) (file start end : ℕ) (rows : List MapRecord) : Type 0 where
  pub some : rows ≢ []
  pub mapped : All (λ row. Contains m.records row × (row.file ≡ file) × (1 ≤ row.count)) rows
  pub every : All (λ row. row.file ≡ file → Contains rows row) m.records
  pub whole : RunTo start rows end

abbrev pub IsFilled : MapMeaning → ℕ → ℕ → ℕ → Type 0
IsFilled m file start end = (rows : List MapRecord) × AreInRow m file start end rows

-- What is said of the file's messages is so: how many there are, and of how many octets; and if they are all wanted and fill the file in
-- a row, then from where to where.
pub record AreContents (m : MapMeaning) (file : ℕ) (c : Contents) : Type 0 where
  pub messages : c.messages ≡ messages_in m file
  pub wanted : c.wanted ≡ wanted_octets m file
  pub full : (start : ℕ) → c.first ≡ Some start → c.is_full ≡ true → IsFilled m file start c.end
  pub exactly : (start end : ℕ) → IsFilled m file start end → (c.first ≡ Some start) × (c.end ≡ end) × (c.is_full ≡ true)

-- within the crate: what is said of them with one message more, which lies behind the others
abbrev pub with_message : MapRow → Contents → Contents
with_message row c = record {
  messages = c.messages + 1;
  wanted = c.wanted + (if nat_lt 0 row.count then row.size else 0);
  first = option_or c.first (Some row.offset);
  end = row.offset + row.size;
  is_full = c.is_full && ((is_none c.first || row.offset == c.end) && nat_lt 0 row.count);
}

-- ---- which files are emptied

-- the octets begin with a header line of this length, for message headers of 30 octets
abbrev pub IsHeaderOf : ℕ → Option (List ℕ) → Type 0
IsHeaderOf size None = ⊥
IsHeaderOf size (Some octets) = (header : List ℕ) × IsHeaderLine header 30 × (take size octets ≡ header) × (length header ≡ size)

-- reading is refused for lack of memory or by a fault
abbrev pub IsReadRefusal : Refusal → Type 0
IsReadRefusal refusal.NoMemory = Unit {0}
IsReadRefusal refusal.ReadFault = Unit {0}
IsReadRefusal other = ⊥

-- the file is there, nobody has taken it, and it is neither sealed nor doomed
pub record MayBeEmptied (files : List MailFile) (number : ℕ) : Type 0 where
  pub f : MailFile
  pub known : file_in number files ≡ Some f
  pub there : IsSome f.end
  pub untaken : IsUntakenFile f
  pub unsealed : f.sealed ≡ false

-- These are files that may be emptied, in order of number. All others are passed over.
pub record AreAllBut (IsPassed : ℕ → Type 0) (files : List MailFile) (numbers : List ℕ) : Type 0 where
  pub rising : IsStrictlyIncreasing numbers
  pub free : All (MayBeEmptied files) numbers
  pub every : (number : ℕ) → MayBeEmptied files number → Contains numbers number ⊎ IsPassed number

-- wanted messages fill the file to its end, as far as the map and the store know
abbrev pub IsFullToEnd : {D : Type 0} → StoreValue D → ℕ → Type 0
IsFullToEnd store number = (start : ℕ) × (end : ℕ) × (end_in number store.files.files ≡ Some end) × IsFilled store.map number start end

-- A purge finds these files: it passes over none that isn't full to its end, and on a disk that is modelled over just those that are
-- clean.
pub record FindsUnclean {D : Type 0} (store : StoreValue D) (history : Option History) (numbers : List ℕ) : Type 0 where
  pub known : AreAllBut (IsFullToEnd store) store.files.files numbers
  pub passed : IfTold history (λ now. AreAllBut (IsCleanFile (files_of now) store.map) store.files.files numbers)
  pub unclean : IfTold history (λ now. All (λ number. IsCleanFile (files_of now) store.map number → ⊥) numbers)

-- whether a message of the file is wanted, how many messages it has, and how many octets the wanted ones have
pub record IsFoundFile (m : MapMeaning) (f : FoundFile) : Type 0 where
  pub wanted : f.is_wanted ≡ list_any (is_copied_from f.file.0) m.records
  pub messages : f.messages ≡ messages_in m f.file.0
  pub octets : f.octets ≡ wanted_octets m f.file.0

abbrev pub found_numbers : List FoundFile → List ℕ
found_numbers files = map (λ f. f.file.0) files

-- The files that a purge finds, with what it counts of them.
pub record AreUncleanFound {D : Type 0} (store : StoreValue D) (history : Option History) (files : List FoundFile) : Type 0 where
  pub finds : FindsUnclean store history (found_numbers files)
  pub each : All (IsFoundFile store.map) files

-- What is found of one file that is there: it is to be emptied, or passed over.
abbrev pub IsFileFound : {D : Type 0} → StoreValue D → Option History → ℕ → Option FoundFile → Type 0
IsFileFound store history number (Some f) = (f.file.0 ≡ number) × MayBeEmptied store.files.files number × IsFoundFile store.map f × IfTold history (λ now. IsCleanFile (files_of now) store.map number → ⊥)
IsFileFound store history number None = (MayBeEmptied store.files.files number → ⊥) ⊎ (IsFullToEnd store number × IfTold history (λ now. IsCleanFile (files_of now) store.map number))

-- within the crate: a file was looked at, and listed if it is to be emptied
pub record IsVisited {D : Type 0} (store : StoreValue D) (history : Option History) (number : ℕ) (before after : List FoundFile) : Type 0 where
  pub found : Option FoundFile
  pub is : IsFileFound store history number found
  pub listed : after ≡ before ++ option_to_list found

-- how many targets files need
abbrev pub targets_in : List FoundFile → ℕ
targets_in files = count_by (λ f. f.is_wanted) files

-- There are numbers for all targets, and each has room in one file.
pub record HasFound {D : Type 0} (store : StoreValue D) (history : Option History) (found : Found) : Type 0 where
  pub files : AreUncleanFound store history found.files.items
  pub targets : found.targets ≡ targets_in found.files.items
  pub most : found.most ≡ greatest (λ f. f.messages) found.files.items
  pub numbers : store.files.highest + found.targets ≤ 4294967294
  pub short : All (λ f. target_length store.map f.file.0 ≤ 4294967294) found.files.items

-- behind the drawn numbers too few are left for the targets of these files, or a target would be too long
abbrev pub LacksTargets : MapMeaning → ℕ → List FoundFile → Type 0
LacksTargets m drawn files = (4294967294 < drawn + targets_in files) ⊎ ((f : FoundFile) × Contains files f × (4294967294 < target_length m f.file.0))

-- why a purge that looks for files is refused: for lack of memory, by a fault, or for lack of numbers
abbrev pub IsFindRefusal : {D : Type 0} → StoreValue D → Option History → Refusal → Type 0
IsFindRefusal store history refusal.NoMemory = Unit {0}
IsFindRefusal store history refusal.ReadFault = Unit {0}
IsFindRefusal store history (refusal.StoreFull most) = (most ≡ 4294967294) × ((files : List FoundFile) × AreUncleanFound store history files × LacksTargets store.map store.files.highest files)
IsFindRefusal store history other = ⊥
