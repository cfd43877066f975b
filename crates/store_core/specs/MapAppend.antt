-- What an append to the map log asks, and what it leaves.
use Rattle.std.specs.Prelude.{◌≡◌, ◌≤◌, ◌<◌, ◌+◌, ◌-◌, ℕ, List, [], ◌∷◌, ◌++◌, length, fold, All, Option, Some, MatchOption}
use Rattle.sha1.specs.Sha1.{sha1}
use Rattle.disk_model.specs.Disk.{Files, DiskState, History, IfTold, IsImage}
use Rattle.disk_model.specs.declared.name.FileName.TheVariants.{Inst}
use Rattle.map_index.specs.Needs.{TakesMemory}
use Rattle.map_index.specs.Value.{HasRoomFor}
use Rattle.map_index.specs.declared.room.MapRoom.{MapRoom}
use Rattle.mdbox_base.specs.Words.{IsOctets}
use Rattle.mdbox_base.specs.declared.entries.Highest.{Highest}
use Rattle.mdbox_base.specs.declared.entries.InstRow.{InstRow}
use Rattle.mdbox_base.specs.declared.entries.MapEntry.{MapEntry}
use Rattle.mdbox_base.specs.declared.entries.MapEntry.TheVariants as map_entry
use Rattle.model_appends.specs.MapAppending.{stored_row}
use Rattle.model_attach.specs.Detached.{AreDetached}
use Rattle.model_logs.specs.Entries.{map_text}
use Rattle.model_meaning.specs.MapMeaning.{MapMeaning, MapRecord, guid_file}
use Rattle.model_store.specs.Safe.{LiesInFile}
use Rattle.model_store.specs.Settled.{files_of, HasSameRegion}
use Rattle.model_store.specs.Stands.{StoresMessage}
use Rattle.sis_store.specs.declared.instance.KnownInstance.{KnownInstance}
use Rattle.store_core.specs.Append.{change_beside}
use Rattle.store_core.specs.StoreInstances.{IsFirmInstance, IsKnownRow, IsFirstKnown}
use Rattle.store_core.specs.Value.{entry_room}

-- ---- what it asks

-- The kinds of entries that are appended: those that change counts, and a message that is stored. Its count is 1, which is
-- due.
abbrev pub IsAppendable : MapEntry → Type 0
IsAppendable (map_entry.U uid) = Unit {0}
IsAppendable (map_entry.D uids) = Unit {0}
IsAppendable (map_entry.T counts) = Unit {0}
IsAppendable (map_entry.S origin count uid file offset size guid instances) = count ≡ 1
IsAppendable entry = ⊥

-- A message that is stored gets the next map uid, which is drawn by the append. Its file is drawn, and so is that of its GUID,
-- in the store with this id. The map uids that other entries name are those of records.
abbrev pub HasDrawnNumbers : MapEntry → List ℕ → Highest → Type 0
HasDrawnNumbers (map_entry.S origin count uid file offset size guid instances) store drawn = (uid.0 ≡ drawn.map + 1) × (file.0 ≤ drawn.file) × (guid_file store guid.0 ≤ drawn.file)
HasDrawnNumbers entry store drawn = Unit {0}

-- Something is due of each record whose count falls. A count that is set is what is listed and due.
abbrev pub FitsDue : MapEntry → (ℕ → ℕ) → (ℕ → ℕ) → Type 0
FitsDue (map_entry.D uids) due listed = All (λ uid. 1 ≤ due uid.0) uids
FitsDue (map_entry.T counts) due listed = All (λ given. given.count ≡ listed given.uid.0 + due given.uid.0) counts
FitsDue entry due listed = Unit {0}

-- the region of a message that is stored lies in its file, as the disk reads it
abbrev pub HasRegion : MapEntry → Option History → Type 0
HasRegion (map_entry.S origin count uid file offset size guid instances) history = IfTold history (λ now. LiesInFile (files_of now) (stored_row origin count uid file offset size guid instances))
HasRegion entry history = Unit {0}

-- the instances that a message names are known
abbrev pub NamesKnown : MapEntry → List KnownInstance → Type 0
NamesKnown (map_entry.S origin count uid file offset size guid instances) known = All (IsKnownRow known) instances
NamesKnown entry known = Unit {0}

-- Those that an own save (origin 0) names are the first of their octets: no known instance of the same hash and size with a
-- lesser id has them, as the disk reads it.
abbrev pub NamesFirst : MapEntry → List KnownInstance → Option History → Type 0
NamesFirst (map_entry.S origin count uid file offset size guid instances) known history = origin ≡ 0 → IfTold history (λ now. All (IsFirstKnown known now) instances)
NamesFirst entry known history = Unit {0}

-- A record that is made may name those that a message names.
abbrev pub NamesFirm : MapEntry → MapMeaning → Option History → Type 0
NamesFirm (map_entry.S origin count uid file offset size guid instances) m history = IfTold history (λ now. All (IsFirmInstance m now) instances)
NamesFirm entry m history = Unit {0}

-- a crash leaves a record's region as the disk reads it
abbrev pub IsSyncedRegion : DiskState → MapRecord → Type 0
IsSyncedRegion now row = (image : Files) → IsImage now image → HasSameRegion (files_of now) image row

-- what a record stores, it stores in its detached form
abbrev pub StoresDetached : Files → MapRecord → Type 0
StoresDetached files row = (octets : List ℕ) → (kept : StoresMessage files row octets) → AreDetached octets kept.stored.message.body kept.stored.meta.refs kept.instances

-- the hash in an instance's name is the SHA-1 of its octets (FIPS 180-4)
abbrev pub HasItsHash : Files → InstRow → Type 0
HasItsHash files inst = (octets : List ℕ) → files (Inst inst.hash.0 inst.id.0) ≡ Some octets → inst.hash.0 ≡ sha1 octets

-- an own save stores its detached form, and its instances have their hashes in their names
abbrev pub IsOwnSave : Files → MapRecord → Type 0
IsOwnSave files row = StoresDetached files row × All (HasItsHash files) row.instances

-- A crash leaves the region of a message that is stored as the disk reads it, and a record of origin 0 is an own save.
abbrev pub IsReadyToStore : MapEntry → Option History → Type 0
IsReadyToStore (map_entry.S origin count uid file offset size guid instances) history =
    IfTold history (λ now. IsSyncedRegion now (stored_row origin count uid file offset size guid instances) × (origin ≡ 0 → IsOwnSave (files_of now) (stored_row origin count uid file offset size guid instances)))
IsReadyToStore entry history = Unit {0}

-- ---- what it leaves

-- the numbers drawn, with the map uid of a message that is stored
abbrev pub drawn_by : MapEntry → Highest → Highest
drawn_by (map_entry.S origin count uid file offset size guid instances) drawn = record drawn { map = uid.0 }
drawn_by entry drawn = drawn

-- the entry has more octets than there is always room for
abbrev pub IsLongEntry : MapEntry → Type 0
IsLongEntry entry = entry_room < length (map_text entry) + 5

-- ---- within the crate

-- the ids of instances that the entry names are octets
abbrev pub HasOctetIds : MapEntry → Type 0
HasOctetIds (map_entry.S origin count uid file offset size guid instances) = All (λ row. IsOctets row.id.0) instances
HasOctetIds entry = Unit {0}

-- the octets of an entry; none where it is short
abbrev pub IsLaidOut : Option (List ℕ) → MapEntry → Type 0
IsLaidOut text entry = MatchOption text (length (map_text entry) ≤ 64) (λ octets. octets ≡ map_text entry)

-- an entry that makes something once more, for which there is so much room; none where it makes nothing
abbrev pub IsSpareCopy : Option MapEntry → MapEntry → MapRoom → Type 0
IsSpareCopy copy entry room = MatchOption copy (TakesMemory entry → ⊥) (λ same. (same ≡ entry) × HasRoomFor entry room)

-- what is due with the entry, as numbers at the records: a record that is made is the last
abbrev pub dues_with : MapEntry → List MapRecord → List ℕ → List ℕ
dues_with (map_entry.U uid) rows dues = change_beside uid.0 (λ n. n + 1) rows dues
dues_with (map_entry.D uids) rows dues = fold (λ numbers uid. change_beside uid.0 (λ n. n - 1) rows numbers) dues uids
dues_with (map_entry.S origin count uid file offset size guid instances) rows dues = dues ++ count ∷ []
dues_with entry rows dues = dues
