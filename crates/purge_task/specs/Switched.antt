-- What the switch of a storage file asks, and what it leaves.
use Rattle.std.specs.Prelude.{◌≡◌, ◌≢◌, ◌≤◌, ◌+◌, ◌*◌, ◌==◌, ℕ, true, List, [], ◌∷◌, length, map, All, AllPairs, Contains, Bool, false, nat_lt, vec_capacity, Option, Some, None}
use Rattle.std.specs.List.{list_any}
use Rattle.std.specs.Option.{IfSome, option_map_or}
use Rattle.std.specs.List.Sorted.{IsStrictlyIncreasing}
use Rattle.disk_model.specs.Disk.{History, Between, IfTold, Keeps, MayLeave, reading}
use Rattle.disk_model.specs.declared.name.FileName.TheVariants as file
use Rattle.mdbox_base.specs.declared.ids.FileNo.{FileNo}
use Rattle.mdbox_base.specs.declared.ids.MapUid.{MapUid}
use Rattle.mdbox_base.specs.declared.entries.MapEntry.{MapEntry}
use Rattle.mdbox_base.specs.declared.entries.MapEntry.TheVariants as map_entry
use Rattle.mdbox_base.specs.declared.entries.MapPlace.{MapPlace}
use Rattle.model_appends.specs.MapAppending.{AreCopied}
use Rattle.model_logs.specs.Entries.{map_text, MapInRange}
use Rattle.model_meaning.specs.MapFits.{HasRecord, MapFits}
use Rattle.model_meaning.specs.MapMeaning.{MapMeaning, has_map_uid, map_applied, record_at}
use Rattle.model_store.specs.Settled.{files_of}
use Rattle.storage_files.specs.declared.file.MailFile.{MailFile}
use Rattle.storage_files.specs.Files.{changed_in, end_in, is_emptied_in, is_taken_in, made_doomed, pins_in, place_begun_in, placing_ended, released_in}
use Rattle.store_core.specs.Removing.{AreElsewhere}
use Rattle.store_core.specs.Switching.{HasCopies, HasCopiesSynced, PlacesLieBelow, Switches}
use Rattle.store_core.specs.Value.{StoreValue}
use Rattle.purge_task.specs.Found.{messages_in}
use Rattle.purge_task.specs.Reserved.{HasListRoom}
use Rattle.purge_task.specs.declared.switching.Switched.{Switched}
use Rattle.purge_task.specs.declared.work.Source.{Source}
use Rattle.purge_task.specs.declared.work.Work.{Work}

-- ---- the entry

-- Of what was copied that moves which is wanted now, and of the file's records those are dropped that aren't, each in order of map uid.
pub record AreSwitchLists (m : MapMeaning) (file : ℕ) (copied moved : List MapPlace) (dropped : List MapUid) : Type 0 where
  pub moved_rising : IsStrictlyIncreasing (map (λ p. p.uid.0) moved)
  pub moved_copied : All (λ p. Contains copied p × HasRecord m p.uid.0 (λ row. 1 ≤ row.count)) moved
  pub copied_moved : All (λ p. HasRecord m p.uid.0 (λ row. 1 ≤ row.count) → Contains moved p) copied
  pub dropped_rising : IsStrictlyIncreasing (map (λ u. u.0) dropped)
  pub dropped_here : All (λ u. HasRecord m u.0 (λ row. (row.file ≡ file) × (row.count ≡ 0))) dropped
  pub each_dropped : All (λ row. row.file ≡ file → row.count ≡ 0 → has_map_uid row.uid dropped ≡ true) m.records

-- ---- within the crate: the lists one by one

-- the record of a map uid has a count
abbrev pub is_wanted_at : MapMeaning → ℕ → Bool
is_wanted_at m uid = option_map_or (λ row. nat_lt 0 row.count) (record_at m uid) false

pub record AreMoved (m : MapMeaning) (copied moved : List MapPlace) : Type 0 where
  pub rising : IsStrictlyIncreasing (map (λ p. p.uid.0) moved)
  pub copied_are : All (λ p. Contains copied p × HasRecord m p.uid.0 (λ row. 1 ≤ row.count)) moved
  pub every : All (λ p. HasRecord m p.uid.0 (λ row. 1 ≤ row.count) → Contains moved p) copied

-- the records of a file with count 0, in any order
pub record AreUnwanted (m : MapMeaning) (file : ℕ) (uids : List MapUid) : Type 0 where
  pub once : AllPairs (λ a b. a.0 ≢ b.0) uids
  pub here : All (λ u. HasRecord m u.0 (λ row. (row.file ≡ file) × (row.count ≡ 0))) uids
  pub every : All (λ row. row.file ≡ file → row.count ≡ 0 → has_map_uid row.uid uids ≡ true) m.records

pub record AreDropped (m : MapMeaning) (file : ℕ) (uids : List MapUid) : Type 0 where
  pub rising : IsStrictlyIncreasing (map (λ u. u.0) uids)
  pub here : All (λ u. HasRecord m u.0 (λ row. (row.file ≡ file) × (row.count ≡ 0))) uids
  pub every : All (λ row. row.file ≡ file → row.count ≡ 0 → has_map_uid row.uid uids ≡ true) m.records

-- the number of the target in the entry: 0 where nothing is moved
abbrev pub target_named : Option FileNo → List MapPlace → ℕ
target_named (Some target) (place ∷ moved) = target.0
target_named target moved = 0

-- the entry that moves and drops what is listed of a source
abbrev pub switch_entry : Source → MapEntry
switch_entry source = map_entry.P source.file (target_named source.target source.copied.items) source.copied.items source.dropped.items

-- the source with what is listed now
pub record IsSourceListed (m : MapMeaning) (old new : Source) : Type 0 where
  pub same : new ≡ record old { copied = new.copied; dropped = new.dropped }
  pub lists : AreSwitchLists m old.file.0 old.copied.items new.copied.items new.dropped.items

-- within the crate: a source whose records can be listed
pub record IsListable (m : MapMeaning) (source : Source) : Type 0 where
  pub once : AllPairs (λ a b. a.uid.0 ≢ b.uid.0) source.copied.items
  pub room : messages_in m source.file.0 ≤ vec_capacity source.dropped
  pub undropped : source.dropped.items ≡ []

-- the entry that moves and drops what is listed of a source
pub record IsSwitchEntry (m : MapMeaning) (source : Source) (entry : MapEntry) : Type 0 where
  pub moved : List MapPlace
  pub dropped : List MapUid
  pub is : entry ≡ map_entry.P source.file (target_named source.target moved) moved dropped
  pub listed : AreSwitchLists m source.file.0 source.copied.items moved dropped

abbrev pub dropped_count : MapEntry → ℕ
dropped_count (map_entry.P number target moved dropped) = length dropped
dropped_count entry = 0

-- the source is spent for it, and those behind it are as they were
abbrev pub SpendsFirst : List Source → List Source → Type 0
SpendsFirst [] after = ⊥
SpendsFirst (source ∷ left) after = (spent : Source) × (after ≡ spent ∷ left) × (spent.file ≡ source.file) × (spent.target ≡ source.target)

-- what holds of the first of these
abbrev pub IsFirst : List Source → (Source → Type 0) → Type 0
IsFirst [] Holds = ⊥
IsFirst (source ∷ left) Holds = Holds source

-- ---- within the crate: the target is synced, and the entry appended

abbrev pub target_synced : Option FileNo → List MailFile → List MailFile
target_synced None files = files
target_synced (Some target) files = changed_in target.0 placing_ended files

abbrev pub target_released : Option FileNo → List MailFile → List MailFile
target_released None files = files
target_released (Some target) files = released_in target.0 files

-- the store with a target that was synced, and with another disk
abbrev pub mid_of : {D : Type 0} → Option FileNo → D → StoreValue D → StoreValue D
mid_of target disk v = record v { disk = disk; files = record v.files { files = target_synced target v.files.files } }

-- octets are being placed in the target
pub record IsPlacing {D : Type 0} (target : ℕ) (store : StoreValue D) : Type 0 where
  pub start : ℕ
  pub begun : place_begun_in target store.files.files ≡ Some start
  pub end : ℕ
  pub ends : end_in target store.files.files ≡ Some end
  pub fits : end ≤ 4294967295

abbrev pub IsPlacingIn : {D : Type 0} → Option FileNo → StoreValue D → Type 0
IsPlacingIn None store = Unit {0}
IsPlacingIn (Some target) store = IsPlacing target.0 store

-- the target, if no crash takes it away, is left by a crash as it was read
abbrev pub KeepsTarget : Option FileNo → Option History → Option History → Type 0
KeepsTarget None before after = Unit {0}
KeepsTarget (Some target) before after = Between (λ a b. (text : List ℕ) → (reading (a (file.Mail target.0)) ≡ Some text) × (MayLeave (a (file.Mail target.0)) None → ⊥) → Keeps (b (file.Mail target.0)) text) before after

-- an entry that switches a file can be appended
pub record IsReadyAppend {D : Type 0} (number : ℕ) (entry : MapEntry) (store : StoreValue D) (history : Option History) : Type 0 where
  pub switches : Switches entry number
  pub range : MapInRange entry
  pub fits : MapFits store.map entry
  pub emptied : is_emptied_in number store.files.files ≡ true
  pub room : length (map_text entry) + 5 ≤ store.map_log.room
  pub places : PlacesLieBelow entry store.map store.files.files store.drawn.file
  pub copies : HasCopies entry store.map history
  pub synced : HasCopiesSynced entry store.map history

-- ---- what is asked

-- The copies stand in the target one behind another, octet for octet, and no crash takes the target away. Octets are being placed in it,
-- and no record lies there yet.
pub record IsWritten {D : Type 0} (target : ℕ) (source : Source) (store : StoreValue D) (history : Option History) : Type 0 where
  pub taken : is_taken_in target store.files.files ≡ true
  pub begun : (start : ℕ) × (place_begun_in target store.files.files ≡ Some start)
  pub end : ℕ
  pub ends : end_in target store.files.files ≡ Some end
  pub fits : end ≤ 4294967295
  pub other : target ≢ source.file.0
  pub unnamed : AreElsewhere target store.map.records
  pub within : All (λ place. HasRecord store.map place.uid.0 (λ row. place.offset + row.size ≤ end)) source.copied.items
  pub follow : AllPairs (λ a b. HasRecord store.map a.uid.0 (λ row. a.offset + row.size ≤ b.offset)) source.copied.items
  pub octets : IfTold history (λ now. AreCopied (files_of now) store.map target source.copied.items)
  pub stays : IfTold history (λ now. MayLeave (now (file.Mail target)) None → ⊥)

abbrev pub IsTargetWritten : {D : Type 0} → Option FileNo → Source → StoreValue D → Option History → Type 0
IsTargetWritten None source store history = source.copied.items ≡ []
IsTargetWritten (Some target) source store history = IsWritten target.0 source store history

-- A source was copied: all its records that are wanted now, each once; and there is room for the entry, its lists and its text.
pub record IsReadyToSwitch {D : Type 0} (source : Source) (work : Work) (store : StoreValue D) (history : Option History) : Type 0 where
  pub emptied : is_emptied_in source.file.0 store.files.files ≡ true
  pub once : AllPairs (λ a b. a.uid.0 ≢ b.uid.0) source.copied.items
  pub here : All (λ place. HasRecord store.map place.uid.0 (λ row. row.file ≡ source.file.0)) source.copied.items
  pub every : All (λ row. row.file ≡ source.file.0 → 1 ≤ row.count → list_any (λ p. p.uid.0 == row.uid) source.copied.items ≡ true) store.map.records
  pub target : IsTargetWritten source.target source store history
  pub undropped : source.dropped.items ≡ []
  pub lists : HasListRoom (messages_in store.map source.file.0) source
  pub text : 17 + 8 * messages_in store.map source.file.0 ≤ length work.text.items
  pub log : 17 + 8 * messages_in store.map source.file.0 + 5 ≤ store.map_log.room

-- ---- what it leaves

-- what is known of the storage files: the source is doomed, and its target given back
abbrev pub files_switched : ℕ → Option FileNo → List MailFile → List MailFile
files_switched source None files = changed_in source made_doomed files
files_switched source (Some target) files = released_in target.0 (changed_in source made_doomed (changed_in target.0 placing_ended files))

-- After the switch the map means what it did, with an entry of just these lists, and no more of the store has changed.
pub record IsSwitched {D : Type 0} (source : Source) (switched : Switched) (old new : StoreValue D) : Type 0 where
  pub moved : List MapPlace
  pub dropped : List MapUid
  pub listed : AreSwitchLists old.map source.file.0 source.copied.items moved dropped
  pub fits : MapFits old.map (map_entry.P source.file (target_named source.target moved) moved dropped)
  pub map_is : new.map ≡ map_applied (map_entry.P source.file (target_named source.target moved) moved dropped) old.map
  pub same : new ≡ record old { disk = new.disk; map_log = new.map_log; map = new.map; dues = new.dues; files = record old.files { files = files_switched source.file.0 source.target old.files.files } }
  pub unpinned : switched.is_unpinned ≡ (pins_in source.file.0 old.files.files == 0)
  pub counted : switched.dropped ≡ length dropped

-- each storage file and each instance reads as it did
abbrev pub ReadsMail : Option History → Option History → Type 0
ReadsMail = Between (λ a b. ((number : ℕ) → reading (b (file.Mail number)) ≡ reading (a (file.Mail number))) × ((hash id : List ℕ) → b (file.Inst hash id) ≡ a (file.Inst hash id)))

-- each storage file but the target is as it was
abbrev pub KeepsButTarget : Option FileNo → Option History → Option History → Type 0
KeepsButTarget target = Between (λ a b. (number : ℕ) → IfSome target (λ t. t.0 ≢ number) → b (file.Mail number) ≡ a (file.Mail number))
