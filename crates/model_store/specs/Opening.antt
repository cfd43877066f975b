-- Which files a store opens from, and where others are damaged. The checks stand in the order in which they are made; a
-- check that fails does so where all before it pass.
use Rattle.std.specs.Prelude.{◌≡◌, ◌≢◌, ◌<◌, ◌≤◌, ◌+◌, ◌==◌, ℕ, List, [], ◌∷◌, ◌++◌, length, map, take, drop, Option, Some, None, ◌⊎◌, All, Contains, sum_by, count_by, codes}
use Rattle.std.specs.List.{AllByRecursion}
use Rattle.std.specs.Option.{IfSome}
use Rattle.std.specs.Cmp.Lexicographic.{slice_cmp}
use Rattle.std.specs.Ordering.{nat_cmp}
use Rattle.std.specs.declared.cmp.Ordering.TheVariants.{Greater}
use Rattle.disk_model.specs.Disk.{Files}
use Rattle.disk_model.specs.declared.name.FileName.{FileName}
use Rattle.disk_model.specs.declared.name.FileName.TheVariants as file
use Rattle.mdbox_base.specs.Words.{IsOctets, IsNumber}
use Rattle.model_logs.specs.declared.log_head.LogHead.{LogHead}
use Rattle.model_logs.specs.declared.log_head.LogKind.TheVariants as kind
use Rattle.mdbox_base.specs.declared.ids.Uid.{Uid}
use Rattle.mdbox_base.specs.declared.ids.MapUid.{MapUid}
use Rattle.mdbox_base.specs.declared.ids.Guid.{Guid}
use Rattle.mdbox_base.specs.declared.entries.InstRow.{InstRow}
use Rattle.mdbox_base.specs.declared.entries.MapEntry.{MapEntry}
use Rattle.mdbox_base.specs.declared.entries.BoxEntry.{BoxEntry}
use Rattle.mdbox_base.specs.declared.entries.BoxEntry.TheVariants as box
use Rattle.mdbox_base.specs.declared.entries.MapEntry.TheVariants as map_entry
use Rattle.mdbox_base.specs.declared.entries.RootEntry.{RootEntry}
use Rattle.mdbox_base.specs.declared.entries.RootEntry.TheVariants as root_entry
use Rattle.model_lists.specs.Lists.{Lists, empty_mailbox}
use Rattle.model_meaning.specs.BoxMeaning.{LogRow, rows_after, AllBoxFit}
use Rattle.model_meaning.specs.MapMeaning.{MapRecord, MapBox, MapMeaning, map_meaning, record_at, named_instances}
use Rattle.model_meaning.specs.MapFits.{AllMapFit}
use Rattle.model_logs.specs.Entries.{root_text, map_text, box_text, RootInRange, MapInRange, BoxInRange}
use Rattle.model_logs.specs.LogFile.{HeadFits, head_octets, log_end, IsLog, IsDamagedAt}
use Rattle.model_store.specs.Stands.{head_of, HasLog, HasRoot, HasMap, HasBox}
use Rattle.model_store.specs.Safe.{LiesInFile, IsThereWhole}

-- what stands in the files are octets, as on every disk
abbrev pub HoldOctets : Files → Type 0
HoldOctets files = (name : FileName) → IfSome (files name) IsOctets

-- ---- no store

-- a whole head of a log, of any kind and numbers, and a first gate that isn't open
pub record HasClosedHead (octets : List ℕ) : Type 0 where
  pub head : LogHead
  pub fits : HeadFits head
  pub gate : ℕ
  pub behind : List ℕ
  pub spelled : octets ≡ head_octets head ++ gate ∷ behind
  pub closed : gate ≢ 1

-- The root log has no entry: the file isn't there, is too short for one, or has a whole head and a closed gate.
abbrev pub HasNoEntry : Option (List ℕ) → Type 0
HasNoEntry None = Unit {0}
HasNoEntry (Some octets) = (length octets ≤ 26) ⊎ HasClosedHead octets

-- ---- a log that is damaged

-- What makes entries of each kind of log good: each is in its range and fits behind those before it.
abbrev pub AreRootEntries : List RootEntry → Type 0
AreRootEntries entries = AllByRecursion RootInRange entries

abbrev pub AreMapEntries : List ℕ → List MapEntry → Type 0
AreMapEntries store entries = AllByRecursion MapInRange entries × AllMapFit store [] entries

abbrev pub AreBoxEntries : List BoxEntry → Type 0
AreBoxEntries entries = AllByRecursion BoxInRange entries × AllBoxFit [] entries

-- The log is whole, and the record at this place is the first whose octets aren't the text of an entry that is good
-- behind those before it.
pub record IsEntryDamaged {E : Type 0} (text : E → List ℕ) (AreGood : List E → Type 0) (octets : List ℕ) (head : LogHead) (place : ℕ) : Type 0 where
  pub before : List E
  pub bad : List ℕ
  pub behind : List (List ℕ)
  pub whole : IsLog octets head (map text before ++ bad ∷ behind)
  pub good : AreGood before
  pub no_entry : (entry : E) → bad ≡ text entry → AreGood (before ++ entry ∷ []) → ⊥
  pub is : place ≡ log_end (map text before) + 1

-- A file is no log of this head with good entries, and this is the place: 0 where there is no such file.
abbrev pub IsBadLog : {E : Type 0} → (E → List ℕ) → (List E → Type 0) → LogHead → Option (List ℕ) → ℕ → Type 0
IsBadLog text AreGood head None place = place ≡ 0
IsBadLog text AreGood head (Some octets) place = IsDamagedAt (Some head) octets place ⊎ IsEntryDamaged text AreGood octets head place

-- ---- the first check: the root log

-- the head that a root log has to have, whatever its store id
abbrev pub root_head : List ℕ → LogHead
root_head octets = head_of (take 8 (drop 8 octets)) kind.Root 0 0

-- the root log is damaged at this place
pub record IsBadRoot (files : Files) (place : ℕ) : Type 0 where
  pub octets : List ℕ
  pub there : files file.Root ≡ Some octets
  pub has_entry : HasNoEntry (Some octets) → ⊥
  pub bad : IsBadLog root_text AreRootEntries (root_head octets) (Some octets) place

-- ---- the second: the map log that the root log names

-- The log of this generation is bad at this place. No file has the generation 0 or 4,294,967,295.
abbrev pub IsBadMapLog : List ℕ → ℕ → Option (List ℕ) → ℕ → Type 0
IsBadMapLog store generation octets place =
    ((IsNumber generation → ⊥) × (place ≡ 0)) ⊎ (IsNumber generation × IsBadLog map_text (AreMapEntries store) (head_of store kind.Map 0 generation) octets place)

pub record IsBadMap (files : Files) (name : FileName) (place : ℕ) : Type 0 where
  pub store : List ℕ
  pub generation : ℕ
  pub root : HasRoot files store generation
  pub is_name : name ≡ file.Map generation
  pub bad : IsBadMapLog store generation (files name) place

-- ---- the third: the log of each mailbox, in order of number

-- a row of a mailbox has a record of the map with its GUID
abbrev pub HasItsRecord : MapMeaning → LogRow → Type 0
HasItsRecord m row = (entry : MapRecord) × (record_at m row.map_uid ≡ Some entry) × (entry.guid ≡ row.guid)

-- a mailbox passes with this log
pub record PassesBox (files : Files) (m : MapMeaning) (mailbox : MapBox) (entries : List BoxEntry) : Type 0 where
  pub log : HasBox files m.store mailbox entries
  pub records : All (HasItsRecord m) (rows_after entries)

-- mailboxes pass with these logs, one for each
abbrev pub PassBoxes : Files → MapMeaning → List MapBox → List (List BoxEntry) → Type 0
PassBoxes files m [] [] = Unit {0}
PassBoxes files m (mailbox ∷ boxes) (entries ∷ logs) = PassesBox files m mailbox entries × PassBoxes files m boxes logs
PassBoxes files m [] (entries ∷ logs) = ⊥
PassBoxes files m (mailbox ∷ boxes) [] = ⊥

-- the record at this place of a mailbox log adds a message that is listed and has no record of its GUID
pub record IsDangling (m : MapMeaning) (entries : List BoxEntry) (place : ℕ) : Type 0 where
  pub before : List BoxEntry
  pub uid : Uid
  pub flags : ℕ
  pub time : ℕ
  pub size : ℕ
  pub map_uid : MapUid
  pub guid : Guid
  pub words : List (List ℕ)
  pub behind : List BoxEntry
  pub split : entries ≡ before ++ box.A uid flags time size map_uid guid words ∷ behind
  pub row : LogRow
  pub listed : Contains (rows_after entries) row
  pub same : row.uid ≡ uid.0
  pub bare : HasItsRecord m row → ⊥
  pub is : place ≡ log_end (map box_text before) + 1

-- the log of a mailbox is good, and this is the least place of such a record
pub record LacksRecord (files : Files) (m : MapMeaning) (mailbox : MapBox) (place : ℕ) : Type 0 where
  pub entries : List BoxEntry
  pub log : HasBox files m.store mailbox entries
  pub bare : IsDangling m entries place
  pub least : (other : ℕ) → IsDangling m entries other → place ≤ other

-- a mailbox is the first that doesn't pass
pub record IsBadBox (files : Files) (m : MapMeaning) (name : FileName) (place : ℕ) : Type 0 where
  pub before : List MapBox
  pub mailbox : MapBox
  pub behind : List MapBox
  pub split : m.boxes ≡ before ++ mailbox ∷ behind
  pub logs : List (List BoxEntry)
  pub passed : PassBoxes files m before logs
  pub is_name : name ≡ file.Box mailbox.number mailbox.generation
  pub bad : IsBadLog box_text AreBoxEntries (head_of m.store kind.Box mailbox.number mailbox.generation) (files name) place ⊎ LacksRecord files m mailbox place

-- The logs pass: the root log names a map log with these entries, and the mailboxes have these logs.
pub record PassLogs (files : Files) (store : List ℕ) (entries : List MapEntry) (logs : List (List BoxEntry)) : Type 0 where
  pub map_log : HasMap files store entries
  pub boxes : PassBoxes files (map_meaning store entries) (map_meaning store entries).boxes logs

-- ---- the fourth: counts

-- how many listed messages have this map uid
abbrev pub listed_of : List (List BoxEntry) → ℕ → ℕ
listed_of logs uid = sum_by (λ entries. count_by (λ row. row.map_uid == uid) (rows_after entries)) logs

-- a record's count is at least its listed messages
abbrev pub IsCounted : List (List BoxEntry) → MapRecord → Type 0
IsCounted logs row = listed_of logs row.uid ≤ row.count

-- some record's count is less
abbrev pub IsMiscounted : MapMeaning → List (List BoxEntry) → Type 0
IsMiscounted m logs = (row : MapRecord) × Contains m.records row × (row.count < listed_of logs row.uid)

-- ---- the fifth: regions

-- a record whose region doesn't lie in its file
pub record IsCutOff (files : Files) (m : MapMeaning) (row : MapRecord) : Type 0 where
  pub is_record : Contains m.records row
  pub outside : LiesInFile files row → ⊥

-- no record before this one, by file number and offset
abbrev pub IsNotBehind : MapRecord → MapRecord → Type 0
IsNotBehind a b = (a.file < b.file) ⊎ ((a.file ≡ b.file) × (a.offset ≤ b.offset))

-- the first of them
pub record IsFirstCutOff (files : Files) (m : MapMeaning) (name : FileName) (place : ℕ) : Type 0 where
  pub row : MapRecord
  pub cut_off : IsCutOff files m row
  pub first : (other : MapRecord) → IsCutOff files m other → IsNotBehind row other
  pub is_name : name ≡ file.Mail row.file
  pub is : place ≡ row.offset

-- ---- the sixth: instances

-- an instance that a record names and that isn't there with its size
pub record IsMissing (files : Files) (m : MapMeaning) (inst : InstRow) : Type 0 where
  pub is_named : Contains (named_instances m) inst
  pub not_there : IsThereWhole files inst → ⊥

-- the octets by which names of instances are ordered
abbrev pub name_of : InstRow → List ℕ
name_of inst = inst.hash.0 ++ inst.id.0

-- the first of them, in the order of names
pub record IsFirstMissing (files : Files) (m : MapMeaning) (name : FileName) : Type 0 where
  pub inst : InstRow
  pub missing : IsMissing files m inst
  pub first : (other : InstRow) → IsMissing files m other → slice_cmp nat_cmp (name_of inst) (name_of other) ≢ Greater
  pub is_name : name ≡ file.Inst inst.hash.0 inst.id.0

-- ---- opening

-- The files pass all checks: a store with this id opens, whose map log has these entries and whose mailboxes have these
-- logs.
pub record Opens (files : Files) (store : List ℕ) (entries : List MapEntry) (logs : List (List BoxEntry)) : Type 0 where
  pub passed : PassLogs files store entries logs
  pub counts : All (IsCounted logs) (map_meaning store entries).records
  pub regions : All (LiesInFile files) (map_meaning store entries).records
  pub instances : All (IsThereWhole files) (named_instances (map_meaning store entries))

-- The logs pass, and a later check fails at this file and place.
pub record IsBadBehindLogs (files : Files) (name : FileName) (place : ℕ) : Type 0 where
  pub store : List ℕ
  pub entries : List MapEntry
  pub logs : List (List BoxEntry)
  pub passed : PassLogs files store entries logs
  pub bad : ((name ≡ file.Map passed.map_log.generation) × (place ≡ 0) × IsMiscounted (map_meaning store entries) logs)
      ⊎ (All (IsCounted logs) (map_meaning store entries).records × (IsFirstCutOff files (map_meaning store entries) name place
      ⊎ (All (LiesInFile files) (map_meaning store entries).records × IsFirstMissing files (map_meaning store entries) name × (place ≡ 0))))

-- The first check that fails does so at this file and place.
abbrev pub IsDamaged : Files → FileName → ℕ → Type 0
IsDamaged files name place = ((name ≡ file.Root) × IsBadRoot files place)
    ⊎ (IsBadMap files name place
    ⊎ (((store : List ℕ) × (entries : List MapEntry) × HasMap files store entries × IsBadBox files (map_meaning store entries) name place)
    ⊎ IsBadBehindLogs files name place))

-- ---- a store that is made anew

-- the entry of the root log that names the first map log
abbrev pub first_root : RootEntry
first_root = root_entry.M 1

-- the entry of the map log that makes INBOX
abbrev pub first_box : MapEntry
first_box = map_entry.B (record { 0 = 1 }) 1 (codes "INBOX")

-- The files of a new store with this id: each of its three logs is there, and says just this.
pub record IsNewStore (files : Files) (store : List ℕ) : Type 0 where
  pub root_log : HasLog files file.Root (head_of store kind.Root 0 0) (root_text first_root ∷ [])
  pub map_log : HasLog files (file.Map 1) (head_of store kind.Map 0 1) (map_text first_box ∷ [])
  pub inbox : HasLog files (file.Box 1 1) (head_of store kind.Box 1 1) []

-- the lists of a new store: INBOX, without messages
abbrev pub empty_inbox : Lists
empty_inbox = empty_mailbox 1 (codes "INBOX") ∷ []
