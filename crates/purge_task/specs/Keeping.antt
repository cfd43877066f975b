-- What a purge keeps between its events, of the store and of its disk.
use Rattle.std.specs.Prelude.{◌≡◌, ◌≢◌, ◌<◌, ◌≤◌, ◌+◌, ◌*◌, ◌==◌, ◌&&◌, ◌++◌, nat_le, ℕ, true, List, [], ◌∷◌, All, AllPairs, length, sum_by, Option, Some, None, if◌then◌else◌}
use Rattle.std.specs.List.{list_any}
use Rattle.std.specs.Option.{IfSome}
use Rattle.disk_model.specs.Disk.{History, IfTold, MayLeave}
use Rattle.disk_model.specs.declared.name.FileName.TheVariants.{Mail}
use Rattle.list_machine.specs.Run.{is_copied_from, target_length}
use Rattle.mdbox_base.specs.declared.ids.FileNo.{FileNo}
use Rattle.mdbox_base.specs.declared.entries.MapPlace.{MapPlace}
use Rattle.mdbox_base.specs.declared.progress.Did.{Did}
use Rattle.model_appends.specs.MapAppending.{AreCopied}
use Rattle.model_meaning.specs.MapFits.{HasRecord, size_at}
use Rattle.model_meaning.specs.MapMeaning.{MapMeaning}
use Rattle.model_store.specs.Settled.{files_of}
use Rattle.storage_files.specs.Files.{end_in, is_doomed_in, is_emptied_in, is_taken_in, pins_in, place_begun_in}
use Rattle.store_core.specs.Removing.{AreElsewhere}
use Rattle.store_core.specs.Value.{StoreValue}
use Rattle.purge_task.specs.Claims.{sources_left}
use Rattle.purge_task.specs.Found.{messages_in}
use Rattle.purge_task.specs.Left.{purge_files, purge_left}
use Rattle.purge_task.specs.Reserved.{HasListRoom}
use Rattle.purge_task.specs.declared.task.PurgeStage.{PurgeStage}
use Rattle.purge_task.specs.declared.task.PurgeStage.TheVariants as stage
use Rattle.purge_task.specs.declared.work.Source.{Source}
use Rattle.purge_task.specs.declared.work.Work.{Work}

-- ---- its value

-- Which event is next, what the last one did, and how many records it has dropped, storage files it has doomed or removed alone, and
-- instances it has removed.
pub record PurgeValue : Type 0 where
  pub stage : PurgeStage
  pub did : Did
  pub dropped : ℕ
  pub files : ℕ
  pub instances : ℕ

-- ---- the memory that was taken

-- There is room for the entry of a file that is left, laid out and in the map log: 17 octets, and 8 for each record at the most.
pub record HasSwitchRoom {D : Type 0} (work : Work) (store : StoreValue D) (source : Source) : Type 0 where
  pub lists : HasListRoom (messages_in store.map source.file.0) source
  pub text : 17 + 8 * messages_in store.map source.file.0 ≤ length work.text.items
  pub log : 17 + 8 * messages_in store.map source.file.0 + 5 ≤ store.map_log.room

-- ---- the files

-- no message of a file is wanted
abbrev pub IsUnwanted : MapMeaning → ℕ → Type 0
IsUnwanted m file = All (λ row. row.file ≡ file → row.count ≡ 0) m.records

-- The target of a file is taken to add to it, and isn't made yet: its number was drawn.
pub record IsToMake {D : Type 0} (target : ℕ) (store : StoreValue D) : Type 0 where
  pub taken : is_taken_in target store.files.files ≡ true
  pub unmade : end_in target store.files.files ≡ None
  pub drawn : target ≤ store.drawn.file
  pub unnamed : AreElsewhere target store.map.records

abbrev pub IsTargetToMake : {D : Type 0} → ℕ → Option FileNo → StoreValue D → Type 0
IsTargetToMake file None store = IsUnwanted store.map file
IsTargetToMake file (Some target) store = IsToMake target.0 store × (1 ≤ target.0) × (file < target.0)

-- A file that is to be emptied is taken for that, and so is its target, if a message of it was wanted. Nothing of it was copied, and what
-- is wanted of it has room in one file.
pub record IsToBegin {D : Type 0} (work : Work) (store : StoreValue D) (source : Source) : Type 0 where
  pub emptied : is_emptied_in source.file.0 store.files.files ≡ true
  pub target : IsTargetToMake source.file.0 source.target store
  pub short : target_length store.map source.file.0 ≤ 4294967294
  pub uncopied : source.copied.items ≡ []
  pub undropped : source.dropped.items ≡ []
  pub room : HasSwitchRoom work store source

-- Each file is another, and so is each target.
pub record AreSourcesApart (sources : List Source) : Type 0 where
  pub files : AllPairs (λ a b. a.file.0 < b.file.0) sources
  pub targets : AllPairs (λ a b. IfSome a.target (λ t. IfSome b.target (λ u. t.0 < u.0))) sources

-- ---- what was copied

-- "2 M1e C0" and a line feed
abbrev pub target_header : List ℕ
target_header = 50 ∷ 32 ∷ 77 ∷ 49 ∷ 101 ∷ 32 ∷ 67 ∷ 48 ∷ 10 ∷ []

-- the octets begin with the header
abbrev pub HasTargetHeader : Option (List ℕ) → Type 0
HasTargetHeader octets = (rest : List ℕ) × (octets ≡ Some (target_header ++ rest))

-- Copies stand directly one behind another, from this offset to the end.
abbrev pub AreCopiesInRow : MapMeaning → ℕ → List MapPlace → ℕ → Type 0
AreCopiesInRow m offset [] end = offset ≡ end
AreCopiesInRow m offset (place ∷ places) end = (place.offset ≡ offset) × AreCopiesInRow m (offset + size_at m place.uid.0) places end

-- The messages of the source before this offset that are wanted were copied, each once, and no others. The copies stand directly one behind
-- another in the target, from its header to this end, and there is room for what is still to be copied.
pub record AreCopiedUpTo (source from end : ℕ) (copied : List MapPlace) (m : MapMeaning) : Type 0 where
  pub there : All (λ place. HasRecord m place.uid.0 (λ row. (row.file ≡ source) × (row.offset + row.size ≤ from) × (place.offset + row.size ≤ end))) copied
  pub every : All (λ row. row.file ≡ source → row.offset < from → 1 ≤ row.count → list_any (λ place. place.uid.0 == row.uid) copied ≡ true) m.records
  pub once : AllPairs (λ a b. a.uid.0 ≢ b.uid.0) copied
  pub row : AreCopiesInRow m (length target_header) copied end
  pub fits : end + sum_by (λ row. if is_copied_from source row && nat_le from row.offset then row.size else 0) m.records ≤ 4294967294

-- The target is there, and begins with its header; octets are being placed in it from there on; no crash takes it away; and what was copied
-- stands in it octet for octet.
pub record IsCopyingTo {D : Type 0} (target : ℕ) (source : Source) (work : Work) (store : StoreValue D) (history : Option History) : Type 0 where
  pub taken : is_taken_in target store.files.files ≡ true
  pub begun : place_begun_in target store.files.files ≡ Some (length target_header)
  pub end : ℕ
  pub ends : end_in target store.files.files ≡ Some end
  pub drawn : target ≤ store.drawn.file
  pub unnamed : AreElsewhere target store.map.records
  pub behind : source.file.0 < target
  pub copied : AreCopiedUpTo source.file.0 work.from end source.copied.items store.map
  pub header : IfTold history (λ now. HasTargetHeader (files_of now (Mail target)))
  pub octets : IfTold history (λ now. AreCopied (files_of now) store.map target source.copied.items)
  pub stays : IfTold history (λ now. MayLeave (now (Mail target)) None → ⊥)

-- ---- by stage

-- the present file is emptied, and its target is being written
pub record IsSourceCopied {D : Type 0} (source : Source) (work : Work) (store : StoreValue D) (history : Option History) : Type 0 where
  pub emptied : is_emptied_in source.file.0 store.files.files ≡ true
  pub undropped : source.dropped.items ≡ []
  pub room : HasSwitchRoom work store source
  pub target : FileNo
  pub target_is : source.target ≡ Some target
  pub copying : IsCopyingTo target.0 source work store history

abbrev pub IsCopyingFirst : {D : Type 0} → List Source → Work → StoreValue D → Option History → Type 0
IsCopyingFirst [] work store history = ⊥
IsCopyingFirst (source ∷ left) work store history = IsSourceCopied source work store history × All (IsToBegin work store) left

-- the present file is doomed, has neither a pin nor a record's region, and is to be removed
abbrev pub IsRemovingFirst : {D : Type 0} → List Source → Work → StoreValue D → Type 0
IsRemovingFirst [] work store = ⊥
IsRemovingFirst (source ∷ left) work store = (is_doomed_in source.file.0 store.files.files ≡ true) × (pins_in source.file.0 store.files.files ≡ 0) × AreElsewhere source.file.0 store.map.records × All (IsToBegin work store) left

-- in the present file, which has no target, lies no message
abbrev pub IsBareFirst : List Source → MapMeaning → Type 0
IsBareFirst [] m = ⊥
IsBareFirst (source ∷ left) m = (source.target ≡ None) × AreElsewhere source.file.0 m.records

-- the present file has this target
abbrev pub IsTargetFirst : List Source → FileNo → Type 0
IsTargetFirst [] target = ⊥
IsTargetFirst (source ∷ left) target = source.target ≡ Some target

-- a purge at its beginning has a file that is to be emptied
abbrev pub IsBeginningFirst : {D : Type 0} → List Source → Work → StoreValue D → Type 0
IsBeginningFirst [] work store = ⊥
IsBeginningFirst (source ∷ left) work store = (work.from ≡ 0) × All (IsToBegin work store) (source ∷ left)

-- how many octets are copied at a time
abbrev pub HasBlock : Work → Type 0
HasBlock work = length work.block.items ≡ 65536

abbrev pub HasPurged : {D : Type 0} → PurgeStage → StoreValue D → Option History → Type 0
HasPurged (stage.Begin work) store history = HasBlock work × AreSourcesApart (sources_left work) × IsBeginningFirst (sources_left work) work store
HasPurged (stage.Copying work) store history = HasBlock work × AreSourcesApart (sources_left work) × IsCopyingFirst (sources_left work) work store history
HasPurged (stage.Removing work) store history = HasBlock work × AreSourcesApart (sources_left work) × IsRemovingFirst (sources_left work) work store
HasPurged other store history = Unit {0}

-- ---- its numbers

-- The numbers that it counts fit: so many files it has emptied and is to empty, each with at most 4,294,967,295 records; and it removes no more
-- instances than were known as it began, and were placed since.
pub record HasLowCounts {D : Type 0} (t : PurgeValue) (store : StoreValue D) : Type 0 where
  pub dropped : t.dropped ≤ t.files * 4294967295
  pub files : t.files + purge_files t.stage ≤ 4294967295
  pub instances : t.instances + length store.instances.known ≤ 9223372036854775808 + store.instances.highest

-- It counts from its first event on.
abbrev pub HasCountRoom : {D : Type 0} → PurgeValue → StoreValue D → Type 0
HasCountRoom t store = t.stage ≢ stage.First → HasLowCounts t store

-- ---- all of it

-- It is ready for its next event.
abbrev pub IsReadyToPurge : {D : Type 0} → PurgeValue → StoreValue D → Option History → Type 0
IsReadyToPurge t store history = HasPurged t.stage store history × HasCountRoom t store

-- Behind an event that goes on, what it counts fits still, and fewer events are left.
abbrev pub LeavesLess : {D : Type 0} → PurgeValue → PurgeValue → StoreValue D → StoreValue D → Type 0
LeavesLess t next old new = HasLowCounts next new × (purge_left next.stage new < purge_left t.stage old)
