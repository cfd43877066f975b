-- What callers see of the storage files of a store, and what taking one and giving it back mean.
use Rattle.std.specs.Prelude.{◌≡◌, ◌==◌, ◌⊎◌, ◌+◌, ◌-◌, ◌<◌, ◌≤◌, ℕ, Bool, true, false, not, ◌&&◌, nat_lt, if◌then◌else◌, List, [], ◌∷◌, ◌++◌, map, filter, find, All, AllPairs, Contains, Option, Some, None, is_some, IsSome, ⊤}
use Rattle.std.specs.Option.{option_map, option_map_or, option_and_then}
use Rattle.mdbox_base.specs.declared.ids.FileNo.{FileNo}
use Rattle.storage_files.specs.declared.file.FileChange.{FileChange}
use Rattle.storage_files.specs.declared.file.FileChange.TheVariants as change
use Rattle.storage_files.specs.declared.file.FileState.{FileState}
use Rattle.storage_files.specs.declared.file.MailFile.{MailFile}
use Rattle.storage_files.specs.declared.file.Take.{Take}
use Rattle.storage_files.specs.declared.file.Take.TheVariants.{Known, New, Full}

pub record FilesValue : Type 0 where
  -- the files that are there or that somebody is about to make, in order of number
  pub files : List MailFile
  -- the greatest number that was drawn
  pub highest : ℕ
  -- how many files more can be taken without memory
  pub spare : ℕ

-- the file is there, or somebody is about to make it
abbrev pub IsThereOrBegun : MailFile → Type 0
IsThereOrBegun f = IsSome f.end ⊎ (f.taken ≡ true)

-- A file that is pinned, emptied or doomed is there. Nobody adds to one that is emptied, and one that is doomed nobody has
-- taken. One that is sealed is never emptied or doomed. Placing in pieces is begun only by one who adds to the file, at its end or before it.
pub record IsUsedFile (f : MailFile) : Type 0 where
  pub there : IsThereOrBegun f
  pub pinned : 1 ≤ f.pins → IsSome f.end
  pub emptied : f.emptied ≡ true → IsSome f.end × (f.taken ≡ false)
  pub doomed : f.doomed ≡ true → IsSome f.end × (f.taken ≡ false) × (f.emptied ≡ false)
  pub sealed : f.sealed ≡ true → (f.emptied ≡ false) × (f.doomed ≡ false)
  pub placing : (start : ℕ) → f.begun ≡ Some start → (f.taken ≡ true) × ((end : ℕ) × (f.end ≡ Some end) × (start ≤ end))

-- Numbers rise up to the drawn one, which is a file's number at most, and each file is there or begun, and used as it may be.
pub record AreFilesInOrder (value : FilesValue) : Type 0 where
  pub rising : AllPairs (λ a b. a.file.0 < b.file.0) value.files
  pub below : All (λ f. f.file.0 ≤ value.highest) value.files
  pub last : value.highest ≤ 4294967294
  pub used : All IsUsedFile value.files

-- a file as an opening found it, which nobody has taken
abbrev pub file_found : FileState → MailFile
file_found s = record {
  file = s.file;
  end = Some s.end;
  sealed = s.sealed;
  barred = s.barred;
  taken = false;
  begun = None;
  emptied = false;
  pins = 0;
  doomed = false;
}

-- the file with this number
abbrev pub file_in : ℕ → List MailFile → Option MailFile
file_in number files = find (λ f. f.file.0 == number) files

-- where the file with this number ends, None where it isn't there
abbrev pub end_in : ℕ → List MailFile → Option ℕ
end_in number files = option_and_then (λ f. f.end) (file_in number files)

-- whether somebody has taken the file with this number
abbrev pub is_taken_in : ℕ → List MailFile → Bool
is_taken_in number files = option_map_or (λ f. f.taken) (file_in number files) false

-- whether it is sealed
abbrev pub is_sealed_in : ℕ → List MailFile → Bool
is_sealed_in number files = option_map_or (λ f. f.sealed) (file_in number files) false

-- whether it is taken to be emptied, and whether it is doomed
abbrev pub is_emptied_in : ℕ → List MailFile → Bool
is_emptied_in number files = option_map_or (λ f. f.emptied) (file_in number files) false

abbrev pub is_doomed_in : ℕ → List MailFile → Bool
is_doomed_in number files = option_map_or (λ f. f.doomed) (file_in number files) false

-- how many pins it has
abbrev pub pins_in : ℕ → List MailFile → ℕ
pins_in number files = option_map_or (λ f. f.pins) (file_in number files) 0

-- where the octets begin that are being placed in it in pieces, if some are
abbrev pub place_begun_in : ℕ → List MailFile → Option ℕ
place_begun_in number files = option_and_then (λ f. f.begun) (file_in number files)

-- whether a number is greater than this one, if there is one
abbrev pub is_number_past : Option FileNo → ℕ → Bool
is_number_past None number = true
is_number_past (Some after) number = nat_lt after.0 number

-- the file that is there with the least number past this one
abbrev pub file_past : Option FileNo → List MailFile → Option FileNo
file_past after files = option_map (λ f. f.file) (find (λ f. is_some f.end && is_number_past after f.file.0) files)

-- the file with this number changes so, and no other
abbrev pub changed_in : ℕ → (MailFile → MailFile) → List MailFile → List MailFile
changed_in number change files = map (λ f. if f.file.0 == number then change f else f) files

-- all but the file with this number
abbrev pub without_file : ℕ → List MailFile → List MailFile
without_file number files = filter (λ f. not (f.file.0 == number)) files

-- the file ends there
abbrev pub ending_at : ℕ → MailFile → MailFile
ending_at end f = record f { end = Some end }

-- somebody has taken it, to add to it, or not
abbrev pub with_taken : Bool → MailFile → MailFile
with_taken is_taken f = record f { taken = is_taken }

-- it is given back, and placing in pieces has ended
abbrev pub given_back : MailFile → MailFile
given_back f = record f { taken = false; begun = None; emptied = false }

-- it is taken to be emptied
abbrev pub to_empty : MailFile → MailFile
to_empty f = record f { emptied = true }

-- placing in pieces begins at its end
abbrev pub placing_begun : MailFile → MailFile
placing_begun f = record f { begun = f.end }

-- placing in pieces has ended
abbrev pub placing_ended : MailFile → MailFile
placing_ended f = record f { begun = None }

-- it has so many pins
abbrev pub with_pins : ℕ → MailFile → MailFile
with_pins pins f = record f { pins = pins }

-- it is doomed, and nobody has taken it any more
abbrev pub made_doomed : MailFile → MailFile
made_doomed f = record f { taken = false; begun = None; emptied = false; doomed = true }

-- what changes of what is known of a file
abbrev pub change_of : FileChange → MailFile → MailFile
change_of (change.Ends end) = ending_at end
change_of change.Taken = with_taken true
change_of change.Emptied = to_empty
change_of change.GivenBack = given_back
change_of change.PlacingBegun = placing_begun
change_of change.PlacingEnded = placing_ended
change_of (change.Pins pins) = with_pins pins
change_of change.Doomed = made_doomed

-- a file that somebody is about to make
abbrev pub file_begun : FileNo → MailFile
file_begun file = record {
  file = file;
  end = None;
  sealed = false;
  barred = false;
  taken = true;
  begun = None;
  emptied = false;
  pins = 0;
  doomed = false;
}

-- A file that is given back is taken no more, neither to add to it nor to empty it. One that was not made is none then.
abbrev pub released_in : ℕ → List MailFile → List MailFile
released_in number files = if is_some (end_in number files) then changed_in number given_back files else without_file number files

-- nobody has taken the file, and it isn't doomed
pub record IsUntakenFile (f : MailFile) : Type 0 where
  pub untaken : f.taken ≡ false
  pub unemptied : f.emptied ≡ false
  pub undoomed : f.doomed ≡ false

-- and messages may be added to it
pub record IsOpenFile (f : MailFile) : Type 0 where
  pub free : IsUntakenFile f
  pub unsealed : f.sealed ≡ false
  pub unbarred : f.barred ≡ false

-- The file is there, nobody has taken it, messages may be added to it, and there is room for so many octets: a file is
-- filled up to 10,485,760 octets.
pub record MayBeTakenFor (size : ℕ) (f : MailFile) : Type 0 where
  pub end : ℕ
  pub ends : f.end ≡ Some end
  pub room : end + size ≤ 10485760
  pub free : IsOpenFile f

-- Which file is taken for so many octets: of those that have room, the one with the greatest number. Where none has room
-- a new one, with the next number; and where all numbers are used up, none.
abbrev pub IsTakeFor : ℕ → FilesValue → Take → Type 0
IsTakeFor size value (Known file) = (f : MailFile) × Contains value.files f × (f.file ≡ file) × MayBeTakenFor size f × All (λ g. MayBeTakenFor size g → g.file.0 ≤ file.0) value.files
IsTakeFor size value (New file) = All (λ g. MayBeTakenFor size g → ⊥) value.files × (file.0 ≡ value.highest + 1) × (value.highest < 4294967294)
IsTakeFor size value Full = All (λ g. MayBeTakenFor size g → ⊥) value.files × (value.highest ≡ 4294967294)

-- A new file has the next number; where all numbers are used up, there is none.
abbrev pub IsTakeNew : FilesValue → Take → Type 0
IsTakeNew value (Known file) = ⊥
IsTakeNew value (New file) = (file.0 ≡ value.highest + 1) × (value.highest < 4294967294)
IsTakeNew value Full = value.highest ≡ 4294967294

-- The file is the taker's. A known one has room for so many octets, and a new one is to be made.
abbrev pub IsGiven : ℕ → List MailFile → Take → Type 0
IsGiven size files (Known file) = (is_taken_in file.0 files ≡ true) × ((end : ℕ) × (end_in file.0 files ≡ Some end) × (end + size ≤ 10485760))
IsGiven size files (New file) = (is_taken_in file.0 files ≡ true) × (end_in file.0 files ≡ None)
IsGiven size files Full = ⊤

-- what is known after a file was taken
abbrev pub after_take : Take → FilesValue → FilesValue
after_take (Known file) value = record value { files = changed_in file.0 (with_taken true) value.files }
after_take (New file) value = record { files = value.files ++ file_begun file ∷ []; highest = file.0; spare = value.spare - 1 }
after_take Full value = value
