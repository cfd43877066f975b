-- What a purge takes at its first event: the files that it empties, and a number for each target. And how it gives them back.
use Rattle.std.specs.Prelude.{◌≡◌, ◌≤◌, ◌<◌, ◌+◌, ◌||◌, ℕ, true, false, List, [], ◌∷◌, fold, count_by, if◌then◌else◌, Some, All, AllPairs}
use Rattle.std.specs.Option.{IfSome}
use Rattle.mdbox_base.specs.declared.ids.FileNo.{FileNo}
use Rattle.storage_files.specs.declared.file.MailFile.{MailFile}
use Rattle.storage_files.specs.declared.file.Take.TheVariants.{New}
use Rattle.storage_files.specs.Files.{IsUntakenFile, after_take, changed_in, file_in, is_emptied_in, is_taken_in, released_in, to_empty}
use Rattle.store_core.specs.Value.{StoreValue}
use Rattle.purge_task.specs.Switched.{target_released}
use Rattle.purge_task.specs.declared.work.Source.{Source}

-- nobody has taken the file, and it is neither sealed nor doomed
pub record CanTake (files : List MailFile) (number : ℕ) : Type 0 where
  pub f : MailFile
  pub known : file_in number files ≡ Some f
  pub untaken : IsUntakenFile f
  pub unsealed : f.sealed ≡ false

-- each of these files can be taken, each once, and there are numbers and memory for their targets
pub record CanTakeAll {D : Type 0} (store : StoreValue D) (sources : List Source) : Type 0 where
  pub files : All (λ s. CanTake store.files.files s.file.0) sources
  pub rising : AllPairs (λ a b. a.file.0 < b.file.0) sources
  pub spare : count_by (λ s. s.is_wanted) sources ≤ store.files.spare
  pub numbers : store.files.highest + count_by (λ s. s.is_wanted) sources ≤ 4294967294

-- ---- one file

abbrev pub next_number : {D : Type 0} → StoreValue D → FileNo
next_number store = record { 0 = store.files.highest + 1 }

-- the store with the file taken to be emptied, and with the next number drawn for its target
abbrev pub taken_to_empty : {D : Type 0} → ℕ → StoreValue D → StoreValue D
taken_to_empty number store = record store { files = record store.files { files = changed_in number to_empty store.files.files } }

abbrev pub target_drawn : {D : Type 0} → StoreValue D → StoreValue D
target_drawn store = record store { files = after_take (New (next_number store)) store.files; drawn = record store.drawn { file = store.files.highest + 1 } }

abbrev pub source_taken : {D : Type 0} → StoreValue D → Source → StoreValue D
source_taken store source = if source.is_wanted then target_drawn (taken_to_empty source.file.0 store) else taken_to_empty source.file.0 store

abbrev pub with_target : ℕ → Source → Source
with_target drawn source = if source.is_wanted then record source { target = Some (record { 0 = drawn + 1 }) } else source

-- ---- all of them, in order

abbrev pub take_all : {D : Type 0} → List Source → StoreValue D → StoreValue D
take_all sources store = fold source_taken store sources

-- the numbers of targets follow the one that was drawn last
abbrev pub targets_given : ℕ → List Source → List Source
targets_given drawn [] = []
targets_given drawn (source ∷ rest) = with_target drawn source ∷ targets_given (if source.is_wanted then drawn + 1 else drawn) rest

-- ---- given back

-- a file and its target are given back
abbrev pub source_released : List MailFile → Source → List MailFile
source_released files source = target_released source.target (released_in source.file.0 files)

abbrev pub all_released : List Source → List MailFile → List MailFile
all_released sources files = fold source_released files sources

-- each of them is taken still, and so is its target, as those before it were given back
abbrev pub CanRelease : List Source → List MailFile → Type 0
CanRelease [] files = Unit {0}
CanRelease (source ∷ left) files = ((is_taken_in source.file.0 files || is_emptied_in source.file.0 files) ≡ true) × IfSome source.target (λ t. is_taken_in t.0 (released_in source.file.0 files) ≡ true) × CanRelease left (source_released files source)
