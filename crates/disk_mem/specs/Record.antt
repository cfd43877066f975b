-- What a disk in memory has recorded, and the history that it tells.
use Rattle.std.specs.Prelude.{◌≡◌, ℕ, zero, suc, Bool, true, false, ◌||◌, if◌then◌else◌, List, [], ◌∷◌, take, slice_get, Option, Some, None, ⊤, ◌⊎◌}
use Rattle.std.specs.declared.cmp.Ordering.{Ordering}
use Rattle.std.specs.declared.cmp.Ordering.TheVariants.{Less}
use Rattle.disk_model.specs.Disk.{FileState, DiskState, History, IsThere, IsPast, joined_by, no_file, still, written, half_written, cut_to, half_cut, synced, made, half_made, removed, half_removed, named}
use Rattle.disk_model.specs.Name.{same_name}
use Rattle.disk_model.specs.declared.name.FileName.{FileName}
use Rattle.disk_mem.specs.declared.file.File.{File}
use Rattle.disk_mem.specs.declared.note.Note.{Note}
use Rattle.disk_mem.specs.declared.note.Change.{Change}
use Rattle.disk_mem.specs.declared.note.Change.TheVariants.{Written, HalfWritten, Cut, HalfCut, Synced, Made, HalfMade, Removed, HalfRemoved, NamesSynced}

-- what a change does to a file
abbrev pub changed : Change → FileState → FileState
changed (Written at text) f = written at text.octets.items f
changed (HalfWritten at n) f = half_written at n f
changed (Cut n) f = cut_to n f
changed (HalfCut n) f = half_cut n f
changed Synced f = synced f
changed Made f = made f
changed HalfMade f = half_made f
changed Removed f = removed f
changed HalfRemoved f = half_removed f
changed NamesSynced f = named f

-- a sync of names is for each file
abbrev pub is_for_all : Change → Bool
is_for_all NamesSynced = true
is_for_all _ = false

-- a part of a change, which leaves the file as it reads
abbrev pub is_half : Change → Bool
is_half (HalfWritten at n) = true
is_half (HalfCut n) = true
is_half HalfMade = true
is_half HalfRemoved = true
is_half _ = false

-- what a change of this file, or of each, does to the file of a name
abbrev pub at_name : FileName → Change → FileName → FileState → FileState
at_name own change name f = if is_for_all change || same_name name own then changed change f else f

abbrev pub done : FileName → Change → DiskState → DiskState
done own change disk = λ name. at_name own change name (disk name)

-- what a note says was done to the file of a name
abbrev pub at_file : FileName → Note → FileState → FileState
at_file name note f = at_name note.name note.change name f

abbrev pub stepped : Note → DiskState → DiskState
stepped note disk = done note.name note.change disk

-- the file of this name after these
abbrev pub file_after : FileName → List Note → FileState → FileState
file_after name [] f = f
file_after name (note ∷ notes) f = file_after name notes (at_file name note f)

-- so many more calls, which changed nothing
abbrev pub waited : ℕ → History → History
waited zero h = h
waited (suc k) h = joined_by (waited k h).now (waited k h)

-- after these calls
abbrev pub played : List Note → History → History
played [] h = h
played (note ∷ notes) h = played notes (joined_by (stepped note (waited note.idle h).now) (waited note.idle h))

-- the first file of this name
abbrev pub found : List File → FileName → Option File
found [] name = None
found (file ∷ files) name = if same_name name file.name then Some file else found files name

-- where the first file of this name stands
pub record IsPlaceOf (files : List File) (name : FileName) (i : ℕ) : Type 0 where
  pub file : File
  pub at : slice_get files i ≡ Some file
  pub named : file.name ≡ name
  pub first : found (take i files) name ≡ None

-- a file that stands still, or none
abbrev pub at_rest : Option File → FileState
at_rest None = no_file
at_rest (Some file) = if file.is_there then still file.text.octets.items else no_file

-- a disk that begins with these files, at rest
abbrev pub from_rest : List File → History
from_rest files = record { now = λ name. at_rest (found files name); before = [] }

-- the history of a disk that began with these files, made these changes, and then so many calls that changed nothing
unfoldable pub told_of : List File → List Note → ℕ → History
told_of files notes idle = waited idle (played notes (from_rest files))

-- a file is there and has these octets, as the state says
abbrev pub HoldsAs : File → FileState → Type 0
HoldsAs file f = (f.is_there ≡ file.is_there) × (f.octets ≡ file.text.octets.items)

-- a file reads as the state says; what it holds while it is gone doesn't matter
abbrev pub ReadsAs : File → FileState → Type 0
ReadsAs file f = (f.is_there ≡ file.is_there) × (f.is_there ≡ true → f.octets ≡ file.text.octets.items)

-- whether there is such a file, and what it holds
abbrev pub there_of : Option File → Bool
there_of None = false
there_of (Some file) = file.is_there

abbrev pub octets_of : Option File → List ℕ
octets_of None = []
octets_of (Some file) = file.text.octets.items

abbrev pub IsReadAt : Option File → FileState → Type 0
IsReadAt file f = (f.is_there ≡ there_of file) × (f.is_there ≡ true → f.octets ≡ octets_of file)

-- the files as they read
abbrev pub ReadsAll : List File → DiskState → Type 0
ReadsAll files disk = (name : FileName) → IsReadAt (found files name) (disk name)

pub record SameFile (old new : File) : Type 0 where
  pub name : new.name ≡ old.name
  pub is_there : new.is_there ≡ old.is_there
  pub octets : new.text.octets.items ≡ old.text.octets.items

abbrev pub IsLessThan : (FileName → FileName → Ordering) → FileName → Option FileName → Type 0
IsLessThan cmp name None = ⊤
IsLessThan cmp name (Some other) = cmp name other ≡ Less

-- of a name whose file is there and which lies between two, and the second of these, that which stands
pub record IsNearer (cmp : FileName → FileName → Ordering) (disk : DiskState) (after best : Option FileName) (name : FileName) (result : Option FileName) : Type 0 where
  pub taken : IsThere (disk name) → IsPast cmp after name → IsLessThan cmp name best → result ≡ Some name
  pub either : (result ≡ best) ⊎ ((result ≡ Some name) × IsThere (disk name) × IsPast cmp after name × IsLessThan cmp name best)
