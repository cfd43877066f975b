-- What a purge beside no other task has made of the map and of the files, from event to event.
use Rattle.std.specs.Prelude.{◌≡◌, ◌≢◌, ◌≤◌, ◌↔◌, ◌⊎◌, ◌==◌, ◌&&◌, ◌||◌, ◌+◌, ◌++◌, ◌∷◌, [], ℕ, Bool, true, false, not, List, All, AllPairs, Contains, Option, Some, None, drop, filter, length, map, take}
use Rattle.std.specs.List.{list_any}
use Rattle.disk_model.specs.Disk.{Between, DiskState, Files, History}
use Rattle.disk_model.specs.declared.name.FileName.TheVariants as file
use Rattle.journal.specs.QuietPurge.{AreAllOf, HasSameOctets, IsClean, IsCleanFile, PurgesQuietly, apart_from_place}
use Rattle.list_machine.specs.Run.{is_copied_from, is_one_of}
use Rattle.mdbox_base.specs.declared.entries.MapPlace.{MapPlace}
use Rattle.mdbox_base.specs.declared.ids.FileNo.{FileNo}
use Rattle.mdbox_base.specs.declared.progress.Progress.{Progress}
use Rattle.mdbox_base.specs.declared.progress.Progress.TheVariants as progress
use Rattle.mdbox_base.specs.declared.replies.Reply.TheVariants as reply
use Rattle.model_meaning.specs.MapFits.{HasRecord}
use Rattle.model_meaning.specs.MapMeaning.{MapMeaning, MapRecord, is_sealed}
use Rattle.model_store.specs.Safe.{LiesInFile}
use Rattle.model_store.specs.Settled.{files_of}
use Rattle.store_core.specs.Value.{StoreValue}
use Rattle.task_claims.specs.Claims.{Thing, amount_in}
use Rattle.purge_task.specs.Claims.{purge_claims, sources_left}
use Rattle.purge_task.specs.Dropped.{DropsUnwanted}
use Rattle.purge_task.specs.Keeping.{PurgeValue, target_header}
use Rattle.purge_task.specs.Switched.{IsFirst}
use Rattle.purge_task.specs.declared.task.PurgeStage.{PurgeStage}
use Rattle.purge_task.specs.declared.task.PurgeStage.TheVariants as stage
use Rattle.purge_task.specs.declared.work.Source.{Source}

-- ---- the map

-- a record stays where these files are emptied: it lies elsewhere, or is wanted
abbrev pub stays_beside : (ℕ → Bool) → MapRecord → Bool
stays_beside done row = not (done row.file && (row.count == 0))

-- A purge has emptied these files of those of a map, and others are left. Each record that stays keeps all but its place, and that too if its
-- file isn't one of these; else it lies in no file that is left. They stand in the order in which they stood.
pub record HasEmptied (old new : MapMeaning) (done is_left : ℕ → Bool) : Type 0 where
  pub placed : MapRecord → MapRecord
  pub same : (row : MapRecord) → apart_from_place (placed row) ≡ apart_from_place row
  pub still : (row : MapRecord) → Contains old.records row → done row.file ≡ false → placed row ≡ row
  pub elsewhere : (row : MapRecord) (file : ℕ) → Contains old.records row → stays_beside done row ≡ true → done row.file ≡ true → is_left file ≡ true → (placed row).file ≢ file
  pub records : new.records ≡ map placed (filter (stays_beside done) old.records)

-- the file too
abbrev pub with_file : ℕ → (ℕ → Bool) → ℕ → Bool
with_file file done number = done number || number == file

-- all but this file
abbrev pub but_file : ℕ → (ℕ → Bool) → ℕ → Bool
but_file file is_left number = is_left number && not (number == file)

-- ---- no other task

-- All that is claimed of the store, a purge at this stage claims: the store has no other task.
abbrev pub IsOnlyTask : {D : Type 0} → PurgeStage → StoreValue D → Type 0
IsOnlyTask at store = (thing : Thing) → amount_in thing store ≡ purge_claims at thing

-- ---- the files

-- the files that are still to be switched, or to be removed where no message lies in them, in order of number
abbrev pub sources_to_empty : PurgeStage → List Source
sources_to_empty (stage.Begin work) = sources_left work
sources_to_empty (stage.Copying work) = sources_left work
sources_to_empty (stage.Removing work) = drop 1 (sources_left work)
sources_to_empty other = []

abbrev pub files_to_empty : PurgeStage → List ℕ
files_to_empty at = map (λ s. s.file.0) (sources_to_empty at)

-- A file that a purge has at hand: the target that it writes, or the file that it has switched and is to remove.
abbrev pub IsAtHand : PurgeStage → ℕ → Type 0
IsAtHand (stage.Copying work) number = IsFirst (sources_left work) (λ source. (target : FileNo) × (source.target ≡ Some target) × (target.0 ≡ number))
IsAtHand (stage.Removing work) number = IsFirst (sources_left work) (λ source. source.file.0 ≡ number)
IsAtHand other number = ⊥

-- The file is there, and is neither sealed nor clean.
pub record IsUncleanFile (files : Files) (m : MapMeaning) (number : ℕ) : Type 0 where
  pub there : files (file.Mail number) ≢ None
  pub unsealed : is_sealed m number ≡ false
  pub unclean : IsCleanFile files m number → ⊥

-- A message of each of these files that has a target is wanted.
abbrev pub HaveWanted : MapMeaning → List Source → Type 0
HaveWanted m = All (λ source. (target : FileNo) → source.target ≡ Some target → list_any (is_copied_from source.file.0) m.records ≡ true)

-- ---- the target

-- Copies of wanted messages lie one directly after another, from this offset to the end.
abbrev pub CopiesRunTo : MapMeaning → ℕ → List MapPlace → ℕ → Type 0
CopiesRunTo m offset [] end = offset ≡ end
CopiesRunTo m offset (place ∷ places) end = (place.offset ≡ offset) × HasRecord m place.uid.0 (λ row. (1 ≤ row.count) × CopiesRunTo m (offset + row.size) places end)

-- The target is its header and these copies.
pub record HoldsCopies (files : Files) (m : MapMeaning) (target : ℕ) (copied : List MapPlace) : Type 0 where
  pub octets : List ℕ
  pub there : files (file.Mail target) ≡ Some octets
  pub header : take (length target_header) octets ≡ target_header
  pub run : CopiesRunTo m (length target_header) copied (length octets)

-- The target of the present file holds what was copied of it.
abbrev pub HoldsCopied : Files → MapMeaning → PurgeStage → Type 0
HoldsCopied files m (stage.Copying work) = IsFirst (sources_left work) (λ source. (target : FileNo) → source.target ≡ Some target → HoldsCopies files m target.0 source.copied.items)
HoldsCopied files m other = Unit {0}

-- ---- records

-- Each record that is still there has the octets that it had.
abbrev pub HaveSameRegions : Files → Files → MapMeaning → MapMeaning → Type 0
HaveSameRegions old new first m = (row now : MapRecord) → Contains first.records row → Contains m.records now → now.uid ≡ row.uid → HasSameOctets old new row now

-- ---- instances

-- Just these instances went, and each that is there is as it was.
pub record HaveInstancesGone (old new : Files) (gone : List (List ℕ × List ℕ)) : Type 0 where
  pub once : AllPairs (λ a b. a ≢ b) gone
  pub are : (hash id : List ℕ) → Contains gone (hash, id) ↔ ((old (file.Inst hash id) ≢ None) × (new (file.Inst hash id) ≡ None))
  pub others : (hash id : List ℕ) → new (file.Inst hash id) ≢ None → new (file.Inst hash id) ≡ old (file.Inst hash id)

-- ---- all of it

-- What a purge beside no other task has done since its first event, at which there were these files, and the map meant this. The files that
-- were neither sealed nor clean are those that it has emptied and those that it is still to empty, in order of number; so many it has
-- counted. Each storage file that is there is sealed or clean, or is still to be emptied, or is the one that it has at hand. It has dropped so
-- many records, and only such as it may; each that is there has the octets that it had. Sealed files are as they were. It has removed so
-- many instances.
pub record HasDoneQuietly {D : Type 0} (began : Files) (first : MapMeaning) (at : PurgeStage) (dropped files_counted instances_counted : ℕ) (store : StoreValue D) (files : Files) : Type 0 where
  pub only : IsOnlyTask at store
  pub whole : All (LiesInFile began) first.records
  pub numbers : List ℕ
  pub numbers_are : AreAllOf (IsUncleanFile began first) numbers
  pub done : List ℕ
  pub parted : numbers ≡ done ++ files_to_empty at
  pub counted : files_counted ≡ length done
  pub emptied : HasEmptied first store.map (is_one_of done) (is_one_of (files_to_empty at))
  pub drops : DropsUnwanted first store.map dropped
  pub wanted : HaveWanted store.map (sources_to_empty at)
  pub clean : (number : ℕ) (octets : List ℕ) → files (file.Mail number) ≡ Some octets → is_sealed store.map number ≡ false → Contains (files_to_empty at) number ⊎ IsAtHand at number ⊎ IsClean store.map number octets
  pub target : HoldsCopied files store.map at
  pub regions : HaveSameRegions began files first store.map
  pub untouched : (number : ℕ) → is_sealed first number ≡ true → files (file.Mail number) ≡ began (file.Mail number)
  pub gone : List (List ℕ × List ℕ)
  pub gone_are : HaveInstancesGone began files gone
  pub removed : instances_counted ≡ length gone

-- as this task has counted it
abbrev pub IsQuietSoFar : {D : Type 0} → Files → MapMeaning → PurgeValue → StoreValue D → Files → Type 0
IsQuietSoFar began first t store files = HasDoneQuietly began first t.stage t.dropped t.files t.instances store files

-- ---- an event

-- what holds before an event: at the first one, that there is no other task
abbrev pub IsQuietFrom : {D : Type 0} → PurgeStage → Files → MapMeaning → PurgeValue → StoreValue D → Files → Type 0
IsQuietFrom stage.First began first t store files = IsOnlyTask stage.First store × (began ≡ files) × (first ≡ store.map)
IsQuietFrom other began first t store files = IsQuietSoFar began first t store files

-- what is so of a quiet purge before an event is so afterwards
abbrev pub StaysQuiet : {D : Type 0} → PurgeValue → PurgeValue → StoreValue D → StoreValue D → DiskState → DiskState → Type 0
StaysQuiet t next old new before after = (began : Files) (first : MapMeaning) → IsQuietFrom t.stage began first t old (files_of before) → IsQuietSoFar began first next new (files_of after)

-- so much a quiet purge has done since its first event
abbrev pub HasBeenQuiet : {D : Type 0} → ℕ → ℕ → ℕ → PurgeValue → StoreValue D → StoreValue D → DiskState → DiskState → Type 0
HasBeenQuiet dropped emptied removed t old new before after = (began : Files) (first : MapMeaning) → IsQuietFrom t.stage began first t old (files_of before) → PurgesQuietly began (files_of after) first new.map dropped emptied removed

-- Unless it stops the store, an event of a quiet purge leaves it so, and what the last one replies it has done since its first event.
abbrev pub KeepsQuiet : {D : Type 0} → PurgeValue → PurgeValue → Progress → StoreValue D → StoreValue D → Option History → Option History → Type 0
KeepsQuiet t next progress.More old new before later = new.stopped ≡ false → Between (StaysQuiet t next old new) before later
KeepsQuiet t next (progress.Done (reply.Purged dropped emptied removed)) old new before later = new.stopped ≡ false → Between (HasBeenQuiet dropped emptied removed t old new) before later
KeepsQuiet t next answer old new before later = Unit {0}
