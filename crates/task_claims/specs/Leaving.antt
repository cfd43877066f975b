-- What an event of a task leaves to the other tasks.
use Rattle.std.specs.Prelude.{◌≡◌, ◌≢◌, ◌<◌, ◌≤◌, ◌+◌, ◌==◌, ◌⊎◌, ◌++◌, ℕ, List, length, take, drop, All, map, filter, Option, Some, IsSome}
use Rattle.std.specs.Option.{option_map}
use Rattle.disk_model.specs.Disk.{Files, FileState, History, Between, named, reading}
use Rattle.disk_model.specs.declared.name.FileName.TheVariants as file
use Rattle.mdbox_base.specs.declared.entries.InstRow.{InstRow}
use Rattle.mdbox_base.specs.declared.ids.Hash.{Hash}
use Rattle.mdbox_base.specs.declared.ids.InstId.{InstId}
use Rattle.model_meaning.specs.MapMeaning.{MapRecord, MapMeaning, box_named, record_at, number_at}
use Rattle.model_store.specs.Settled.{files_of}
use Rattle.sis_store.specs.Comparing.{IsUnlikeCompared, candidates_left}
use Rattle.sis_store.specs.Instances.{InstancesValue}
use Rattle.sis_store.specs.OnDisk.{instance_file}
use Rattle.storage_files.specs.Files.{end_in, file_in, with_pins}
use Rattle.storage_files.specs.declared.file.MailFile.{MailFile}
use Rattle.store_core.specs.Dues.{due_at}
use Rattle.store_core.specs.Keeping.{KeepsFirm, KeepsUids}
use Rattle.store_core.specs.MadeLogs.{KeepsGone}
use Rattle.store_core.specs.StoreInstances.{IsKnownRow, IsFirstKnown}
use Rattle.store_core.specs.Value.{StoreValue, references_to}
use Rattle.task_claims.specs.Claims.{Claims, Due, Emptied, Held, OthersClaim, Pinned, Removing, Taken}

-- ---- a record of which something is due to others

-- a record's region lies in its file and has these octets
pub record HasRegionOctets (files : Files) (row : MapRecord) (octets : List ℕ) : Type 0 where
  pub there : List ℕ
  pub in_file : files (file.Mail row.file) ≡ Some there
  pub inside : row.offset + row.size ≤ length there
  pub same : take row.size (drop row.offset there) ≡ octets

-- files that have these rows' instances have the same octets of them still
abbrev pub HaveSameInstances : List InstRow → Files → Files → Type 0
HaveSameInstances rows before after = All (λ row. (octets : List ℕ) → before (instance_file row) ≡ Some octets → after (instance_file row) ≡ Some octets) rows

-- It is there, and nothing of it has changed but its count and its place. Its region has the octets that it had, and so has each
-- of its instances.
pub record LeavesRecord {D : Type 0} (uid : ℕ) (row : MapRecord) (new : StoreValue D) (before after : Option History) : Type 0 where
  pub now : MapRecord
  pub there : record_at new.map uid ≡ Some now
  pub is_same : now ≡ record row { count = now.count; file = now.file; offset = now.offset }
  pub region : Between (λ a b. (octets : List ℕ) → HasRegionOctets (files_of a) row octets → HasRegionOctets (files_of b) now octets) before after
  pub instances : Between (λ a b. HaveSameInstances row.instances (files_of a) (files_of b)) before after

-- A record of which the task claims nothing and that no mailbox lists: none lists it afterwards, and as much of it is due.
abbrev pub LeavesUnlisted : {D : Type 0} → Claims → StoreValue D → StoreValue D → Type 0
LeavesUnlisted mine old new =
    (uid : ℕ) (row : MapRecord) → mine (Due uid) ≡ 0 → record_at old.map uid ≡ Some row → references_to old row.guid ≡ 0 → (references_to new row.guid ≡ 0) × (due_at uid new ≡ due_at uid old)

-- ---- a storage file of others

-- other tasks than this one have taken a storage file, to add to it or to empty it, or are to remove it
abbrev pub OthersTook : {D : Type 0} → Claims → StoreValue D → ℕ → Type 0
OthersTook mine store number = OthersClaim mine store (Taken number) ⊎ OthersClaim mine store (Emptied number) ⊎ OthersClaim mine store (Removing number)

-- what is known of a storage file, but for its pins
abbrev pub known_but_pins : {D : Type 0} → ℕ → StoreValue D → Option MailFile
known_but_pins number store = option_map (with_pins 0) (file_in number store.files.files)

-- a record but for its count, and the records that have their regions in a file
abbrev pub but_count : MapRecord → MapRecord
but_count row = record row { count = 0 }

abbrev pub records_within : ℕ → MapMeaning → List MapRecord
records_within number m = filter (λ row. row.file == number) (map but_count m.records)

-- a file is as it was, or its name was synced
abbrev pub IsSameOrSynced : FileState → FileState → Type 0
IsSameOrSynced old new = (new ≡ old) ⊎ (new ≡ named old)

-- each storage file and each instance is as it was, or its name was synced
abbrev pub SyncsMail : Option History → Option History → Type 0
SyncsMail = Between (λ a b. ((number : ℕ) → IsSameOrSynced (a (file.Mail number)) (b (file.Mail number))) × ((hash id : List ℕ) → IsSameOrSynced (a (file.Inst hash id)) (b (file.Inst hash id))))

-- What is known of it is as it was, but for its pins, and so are the records with regions in it, but for their counts. No record
-- gets a GUID that is given in this file. On the disk it is as it was, or its name was synced.
pub record LeavesFile {D : Type 0} (number : ℕ) (old new : StoreValue D) (before after : Option History) : Type 0 where
  pub known : known_but_pins number new ≡ known_but_pins number old
  pub records : records_within number new.map ≡ records_within number old.map
  pub guids : (guid : List ℕ) → number_at 8 guid ≡ number → All (λ row. row.guid ≢ guid) old.map.records → All (λ row. row.guid ≢ guid) new.map.records
  pub state : Between (λ a b. IsSameOrSynced (a (file.Mail number)) (b (file.Mail number))) before after

-- Other tasks than this one have pinned a storage file; or it is there, and the task neither empties nor removes it. So it may only
-- grow in an event of the task.
abbrev pub MayOnlyGrow : {D : Type 0} → Claims → StoreValue D → ℕ → Type 0
MayOnlyGrow mine store number = OthersClaim mine store (Pinned number) ⊎ (IsSome (end_in number store.files.files) × (mine (Emptied number) ≡ 0) × (mine (Removing number) ≡ 0))

-- It is there and ends no earlier, and what it read is the beginning of what it reads.
pub record OnlyGrows {D : Type 0} (number : ℕ) (old new : StoreValue D) (before after : Option History) : Type 0 where
  pub there : (end : ℕ) → end_in number old.files.files ≡ Some end → (now : ℕ) × (end_in number new.files.files ≡ Some now) × (end ≤ now)
  pub reads : Between (λ a b. (octets : List ℕ) → reading (a (file.Mail number)) ≡ Some octets → (more : List ℕ) × (reading (b (file.Mail number)) ≡ Some (octets ++ more))) before after

-- ---- an instance that others hold

-- It is known, reads as it did, and is the first with its octets if it was.
pub record LeavesInstance {D : Type 0} (row : InstRow) (old new : StoreValue D) (before after : Option History) : Type 0 where
  pub known : IsKnownRow new.instances.known row
  pub reads : Between (λ a b. reading (b (instance_file row)) ≡ reading (a (instance_file row))) before after
  pub first : Between (λ a b. IsFirstKnown old.instances.known a row → IsFirstKnown new.instances.known b row) before after

-- ---- what grows

-- Each instance that is known more has drawn a number. Where none was drawn, of a kind no more are known past any id than before;
-- where one was, it is a number.
pub record PlacesFew (old new : InstancesValue) : Type 0 where
  pub drawn : old.highest ≤ new.highest
  pub few : length new.known + old.highest ≤ length old.known + new.highest
  pub candidates : new.highest ≡ old.highest → (hash : Hash) (size : ℕ) (after : Option InstId) → candidates_left hash size after new.known ≤ candidates_left hash size after old.known
  pub last : new.highest ≢ old.highest → new.highest ≤ 4294967294

-- the number of the mailbox with this name
abbrev pub number_named : MapMeaning → List ℕ → Option ℕ
number_named m name = option_map (λ box. box.number) (box_named m name)

-- each name names the mailbox that it named
abbrev pub NamesStay : MapMeaning → MapMeaning → Type 0
NamesStay m n = (name : List ℕ) (number : ℕ) → number_named m name ≡ Some number → number_named n name ≡ Some number

-- ---- all of it

-- no record that had no count has one
abbrev pub RaisesNone : MapMeaning → MapMeaning → Type 0
RaisesNone m n = (uid : ℕ) (row now : MapRecord) → record_at m uid ≡ Some row → row.count ≡ 0 → record_at n uid ≡ Some now → now.count ≡ 0

-- What was compared with candidates without success stays so, whatever is placed or removed.
abbrev pub KeepsCompared : {D : Type 0} → StoreValue D → StoreValue D → Option History → Option History → Type 0
KeepsCompared old new before after = (hash : Hash) (size : ℕ) (octets : List ℕ) (last : Option InstId) (drawn : ℕ) → drawn ≤ old.instances.highest
    → IsUnlikeCompared old.instances.store hash size octets last drawn old.instances.known before → IsUnlikeCompared old.instances.store hash size octets last drawn new.instances.known after

-- An event of a task that had these claims as it began, and that didn't stop the store, leaves to the other tasks what is theirs, and
-- every storage file that it doesn't claim to empty or to remove. The others are of no claim: no count of 0 rises; the store of the
-- instances, whose numbers rise; the numbers of mailboxes; the end of the map log, which rises if a name comes to name another
-- mailbox or none; the numbers of deleted mailboxes, which no mailbox gets; what was compared; which instances a record that is made
-- may name; the message with a UID; the room for an entry of the map log; and a disk that is modelled stays so. What grows here is
-- what a task's work left is counted by, so that no event of another task adds to it.
pub record LeavesOthers {D : Type 0} (mine : Claims) (old new : StoreValue D) (before after : Option History) : Type 0 where
  pub records : (uid : ℕ) (row : MapRecord) → OthersClaim mine old (Due uid) → record_at old.map uid ≡ Some row → LeavesRecord uid row new before after
  pub unlisted : LeavesUnlisted mine old new
  pub files : (number : ℕ) → OthersTook mine old number → LeavesFile number old new before after
  pub grow : (number : ℕ) → MayOnlyGrow mine old number → OnlyGrows number old new before after
  pub instances : (row : InstRow) → IsKnownRow old.instances.known row → OthersClaim mine old (Held row.id) → LeavesInstance row old new before after
  pub unraised : RaisesNone old.map new.map
  pub store : new.instances.store ≡ old.instances.store
  pub numbers : PlacesFew old.instances new.instances
  pub mailboxes : old.map.highest.mailbox ≤ new.map.highest.mailbox
  pub end : old.map_log.end ≤ new.map_log.end
  pub names : NamesStay old.map new.map ⊎ (old.map_log.end < new.map_log.end)
  pub gone : KeepsGone old new
  pub compared : KeepsCompared old new before after
  pub firm : KeepsFirm old new before after
  pub uids : KeepsUids old new
  pub room : old.map_log.room ≤ new.map_log.room
  pub told : Between (λ a b. Unit {0}) before after

-- ---- maps with the same records

-- two maps have the same records, but for their counts
abbrev pub SameButCounts : MapMeaning → MapMeaning → Type 0
SameButCounts m n = map but_count n.records ≡ map but_count m.records
