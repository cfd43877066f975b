-- What a crash leaves of a file, by the notes of the calls before it.
use Rattle.std.specs.Prelude.{◌≡◌, ◌≢◌, ℕ, ◌+◌, ◌-◌, ◌<◌, nat_lt, Bool, true, false, not, ◌&&◌, ◌||◌, if◌then◌else◌, List, [], ◌∷◌, length, slice_index, Option, Some, None}
use Rattle.disk_model.specs.Disk.{FileState, reading, covers}
use Rattle.disk_model.specs.Name.{same_name}
use Rattle.disk_model.specs.declared.name.FileName.{FileName}
use Rattle.disk_mem.specs.declared.file.File.{File}
use Rattle.disk_mem.specs.declared.choice.Choice.{Choice}
use Rattle.disk_mem.specs.declared.choice.Choice.TheVariants.{Old, New, Torn}
use Rattle.disk_mem.specs.declared.note.Note.{Note}
use Rattle.disk_mem.specs.declared.note.Change.{Change}
use Rattle.disk_mem.specs.declared.note.Change.TheVariants.{Written, HalfWritten, Synced, NamesSynced}
use Rattle.disk_mem.specs.Record.{is_for_all, at_file, file_after, found, at_rest, there_of, octets_of}

-- the calls that a note stands for: the change, and those before it that changed nothing
abbrev pub calls_by : Note → ℕ
calls_by note = note.idle + 1

-- of these notes, how many had been made as so many calls had run
abbrev pub noted : ℕ → List Note → ℕ
noted calls [] = 0
noted calls (note ∷ notes) = if nat_lt note.idle calls then noted (calls - (note.idle + 1)) notes + 1 else 0

-- the change settles the file: a sync of it, or a sync of names where it isn't there
abbrev pub settles : Change → Bool → Bool → Bool
settles Synced own there = own
settles NamesSynced own there = not there
settles _ own there = false

abbrev pub settled_by : FileName → Note → FileState → Bool
settled_by name note f = settles note.change (same_name name note.name) f.is_there

-- the octets of a file as it was last settled, or these
abbrev pub left_octets : FileName → List Note → FileState → List ℕ → List ℕ
left_octets name [] f octets = octets
left_octets name (note ∷ notes) f octets =
    left_octets name notes (at_file name note f) (if settled_by name note f then (at_file name note f).octets else octets)

-- whether the file was there at the last sync of names, or this
abbrev pub left_there : FileName → List Note → FileState → Bool → Bool
left_there name [] f there = there
left_there name (note ∷ notes) f there =
    left_there name notes (at_file name note f) (if is_for_all note.change then (at_file name note f).is_there else there)

-- what the last syncs left of a file
abbrev pub left_by_syncs : FileName → List Note → FileState → Option (List ℕ)
left_by_syncs name notes f = if left_there name notes f f.is_there then Some (left_octets name notes f f.octets) else None

-- each octet that was written since the last sync holds this value, length and name are as they stand
abbrev pub IsTorn : ℕ → FileState → Option (List ℕ) → Type 0
IsTorn octet f None = f.is_there ≡ false
IsTorn octet f (Some text) = (f.is_there ≡ true) × (length text ≡ length f.octets)
    × ((i : ℕ) → i < length f.octets → slice_index text i ≡ (if f.is_loose i then octet else slice_index f.octets i))

-- what is left of a file by a choice, given its state and what the last syncs left
abbrev pub IsChosen : Choice → FileState → Option (List ℕ) → Option (List ℕ) → Type 0
IsChosen Old f old left = left ≡ old
IsChosen New f old left = left ≡ reading f
IsChosen (Torn octet) f old left = IsTorn octet f left

-- what a file that is made of it holds
abbrev pub shown : File → Option (List ℕ)
shown file = if file.is_there then Some file.text.octets.items else None

-- the same for the file of a name, by the files at the beginning and the notes
abbrev pub IsLeft : Choice → List File → List Note → FileName → Option (List ℕ) → Type 0
IsLeft choice base notes name left =
    IsChosen choice (file_after name notes (at_rest (found base name))) (left_by_syncs name notes (at_rest (found base name))) left

-- which places of a file a note's write touched
abbrev pub touched_by : Change → ℕ → Bool
touched_by (Written at text) i = covers at (length text.octets.items) i
touched_by (HalfWritten at n) i = covers at n i
touched_by _ i = false

abbrev pub touched : FileName → List Note → ℕ → Bool
touched name [] i = false
touched name (note ∷ notes) i = (same_name name note.name && touched_by note.change i) || touched name notes i

-- what is left of the file of a name, or nothing where there is none
abbrev pub shown_of : Option File → Option (List ℕ)
shown_of None = None
shown_of (Some file) = shown file

-- each of these files is as the choice leaves it
abbrev pub AreLeft : Choice → List File → List Note → List File → Type 0
AreLeft choice base notes files = (name : FileName) (file : File) → found files name ≡ Some file → IsLeft choice base notes name (shown file)

-- the file of this name is among the first, and each that was among the others
pub record IsOneMore (name : FileName) (old new : List File) : Type 0 where
  pub own : found new name ≢ None
  pub others : (other : FileName) → found old other ≢ None → found new other ≢ None

-- a file for each name, with the same octets
pub record IsCopy (one other : Option File) : Type 0 where
  pub there : there_of other ≡ there_of one
  pub octets : octets_of other ≡ octets_of one
