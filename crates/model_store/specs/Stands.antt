-- Which mailbox lists the files of a store stand for.
use Rattle.std.specs.Prelude.{◌≡◌, ◌≢◌, ◌≤◌, ◌+◌, ℕ, List, [], ◌∷◌, ◌++◌, length, map, take, drop, Some, IsTrue, AllPairs, Contains}
use Rattle.std.specs.List.{AllByRecursion}
use Rattle.std.specs.Option.{option_map_or}
use Rattle.std.specs.Cmp.Lexicographic.{slice_cmp}
use Rattle.std.specs.Ordering.{nat_cmp, is_lt}
use Rattle.sha1.specs.Sha1.{sha1}
use Rattle.disk_model.specs.Disk.{Files}
use Rattle.disk_model.specs.declared.name.FileName.{FileName}
use Rattle.disk_model.specs.declared.name.FileName.TheVariants as file
use Rattle.model_logs.specs.declared.log_head.LogHead.{LogHead}
use Rattle.model_logs.specs.declared.log_head.LogKind.{LogKind}
use Rattle.model_logs.specs.declared.log_head.LogKind.TheVariants as kind
use Rattle.mdbox_base.specs.declared.entries.InstRow.{InstRow}
use Rattle.mdbox_base.specs.declared.entries.MapEntry.{MapEntry}
use Rattle.mdbox_base.specs.declared.entries.BoxEntry.{BoxEntry}
use Rattle.mdbox_base.specs.declared.entries.RootEntry.{RootEntry}
use Rattle.mdbox_base.specs.declared.entries.RootEntry.TheVariants as root
use Rattle.mdbox_base.specs.declared.metadata.ExtRef.{ExtRef}
use Rattle.model_storage.specs.declared.metadata_value.Metadata.{Metadata}
use Rattle.model_lists.specs.Lists.{ListedMessage, Mailbox, Lists}
use Rattle.model_meaning.specs.BoxMeaning.{LogRow, rows_after, next_after, AllBoxFit}
use Rattle.model_meaning.specs.MapMeaning.{MapRecord, MapBox, MapMeaning, map_meaning, record_at}
use Rattle.model_meaning.specs.MapFits.{AllMapFit}
use Rattle.mdbox_base.specs.Words.{IsNumber}
use Rattle.model_logs.specs.LogFile.{version_of, IsLog}
use Rattle.model_storage.specs.StorageFile.{Message, IsMessage}
use Rattle.model_storage.specs.Metadata.{IsMetadata}
use Rattle.model_attach.specs.Rejoined.{IsWhole}
use Rattle.model_attach.specs.Detached.{AreDetached}
use Rattle.model_logs.specs.Entries.{root_text, map_text, box_text, RootInRange, MapInRange, BoxInRange}

-- ---- the logs

-- the head of a log of the store with this id, in the version that is written
abbrev pub head_of : List ℕ → LogKind → ℕ → ℕ → LogHead
head_of store kind number generation = record { version = version_of kind; store = record { 0 = store }; kind = kind; number = number; generation = generation }

-- a file is there, and it is a log with this head and these entries
pub record HasLog (image : Files) (name : FileName) (head : LogHead) (entries : List (List ℕ)) : Type 0 where
  pub octets : List ℕ
  pub there : image name ≡ Some octets
  pub whole : IsLog octets head entries

-- The root log has entries, and its last one names this generation of the map log.
pub record HasRoot (image : Files) (store : List ℕ) (generation : ℕ) : Type 0 where
  pub before : List RootEntry
  pub log : HasLog image file.Root (head_of store kind.Root 0 0) (map root_text (before ++ root.M generation ∷ []))
  pub in_range : AllByRecursion RootInRange (before ++ root.M generation ∷ [])

-- The map log that the root log names, which a file can be, has these entries, and each fits behind those before it.
pub record HasMap (image : Files) (store : List ℕ) (entries : List MapEntry) : Type 0 where
  pub generation : ℕ
  pub root : HasRoot image store generation
  pub generation_number : IsNumber generation
  pub log : HasLog image (file.Map generation) (head_of store kind.Map 0 generation) (map map_text entries)
  pub in_range : AllByRecursion MapInRange entries
  pub fit : AllMapFit store [] entries

-- The log of this mailbox of the map has these entries, and each fits behind those before it.
pub record HasBox (image : Files) (store : List ℕ) (box : MapBox) (entries : List BoxEntry) : Type 0 where
  pub log : HasLog image (file.Box box.number box.generation) (head_of store kind.Box box.number box.generation) (map box_text entries)
  pub in_range : AllByRecursion BoxInRange entries
  pub fit : AllBoxFit [] entries

-- ---- a stored message

-- the octets of instances, in order
abbrev pub HasInstances : Files → List InstRow → List (List ℕ) → Type 0
HasInstances image [] [] = Unit {0}
HasInstances image (row ∷ rows) (octets ∷ rest) = (image (file.Inst row.hash.0 row.id.0) ≡ Some octets) × HasInstances image rows rest
HasInstances image [] (octets ∷ rest) = ⊥
HasInstances image (row ∷ rows) [] = ⊥

-- the references name these instances, in order, one for each
abbrev pub NameInstances : List ExtRef → List InstRow → Type 0
NameInstances [] [] = Unit {0}
NameInstances (ref ∷ refs) (row ∷ rows) = (ref.hash ≡ row.hash) × (ref.id ≡ row.id) × NameInstances refs rows
NameInstances [] (row ∷ rows) = ⊥
NameInstances (ref ∷ refs) [] = ⊥

-- the size of the whole message that its lines tell: that of their `Z`, else that of the stored body
abbrev pub whole_size : Metadata → List ℕ → ℕ
whole_size meta body = option_map_or (λ size. size) meta.physical (length body)

-- A record's region is one message, whose lines hold the record's GUID.
pub record HoldsMessage (image : Files) (row : MapRecord) : Type 0 where
  pub octets_there : List ℕ
  pub message : Message
  pub meta : Metadata
  pub there : image (file.Mail row.file) ≡ Some octets_there
  pub inside : row.offset + row.size ≤ length octets_there
  pub region : IsMessage (take row.size (drop row.offset octets_there)) message
  pub says : IsMetadata message.lines meta
  pub guid : meta.guid ≡ Some (record { 0 = row.guid })

-- A record of the map stores this text: its region is one message with the record's GUID, whose references name the
-- record's instances. The whole of the message's body, its references and their instances is the text, of the size that
-- its lines tell.
pub record StoresMessage (image : Files) (row : MapRecord) (octets : List ℕ) : Type 0 where
  pub stored : HoldsMessage image row
  pub instances : List (List ℕ)
  pub names : NameInstances stored.meta.refs row.instances
  pub found : HasInstances image row.instances instances
  pub whole : IsWhole octets stored.message.body stored.meta.refs instances
  pub size : length octets ≡ whole_size stored.meta stored.message.body

-- ---- the mailboxes

-- A row of a mailbox log is this listed message: the row's map uid has a record with the row's GUID, which stores the
-- message's octets.
pub record IsListed (image : Files) (m : MapMeaning) (row : LogRow) (message : ListedMessage) : Type 0 where
  pub uid : message.uid ≡ row.uid
  pub flags : message.flags ≡ row.flags
  pub time : message.time ≡ row.time
  pub guid : message.guid ≡ row.guid
  pub size : length message.octets ≡ row.size
  pub words : message.words ≡ row.words
  pub entry : MapRecord
  pub found : record_at m row.map_uid ≡ Some entry
  pub same : entry.guid ≡ row.guid
  pub octets : StoresMessage image entry message.octets

abbrev pub AreListed : Files → MapMeaning → List LogRow → List ListedMessage → Type 0
AreListed image m [] [] = Unit {0}
AreListed image m (row ∷ rows) (message ∷ messages) = IsListed image m row message × AreListed image m rows messages
AreListed image m [] (message ∷ messages) = ⊥
AreListed image m (row ∷ rows) [] = ⊥

-- A mailbox of the map is this one: its name and its number, and the messages and the next UID after the entries of its log.
pub record IsMailbox (image : Files) (m : MapMeaning) (box : MapBox) (mailbox : Mailbox) : Type 0 where
  pub entries : List BoxEntry
  pub log : HasBox image m.store box entries
  pub number : mailbox.number ≡ box.number
  pub name : mailbox.name ≡ box.name
  pub next : mailbox.next_uid ≡ next_after entries
  pub messages : AreListed image m (rows_after entries) mailbox.messages

abbrev pub AreMailboxes : Files → MapMeaning → List MapBox → Lists → Type 0
AreMailboxes image m [] [] = Unit {0}
AreMailboxes image m (box ∷ boxes) (mailbox ∷ lists) = IsMailbox image m box mailbox × AreMailboxes image m boxes lists
AreMailboxes image m [] (mailbox ∷ lists) = ⊥
AreMailboxes image m (box ∷ boxes) [] = ⊥

-- ---- each attachment once

-- the order of ids, octet by octet
abbrev pub IsLess : List ℕ → List ℕ → Type 0
IsLess a b = IsTrue (is_lt (slice_cmp nat_cmp a b))

-- A record of this store's own saves (origin 0) names this instance, and it has these octets.
pub record NamesOwn (image : Files) (m : MapMeaning) (inst : InstRow) (octets : List ℕ) : Type 0 where
  pub row : MapRecord
  pub is_record : Contains m.records row
  pub own : row.origin ≡ 0
  pub is_named : Contains row.instances inst
  pub there : image (file.Inst inst.hash.0 inst.id.0) ≡ Some octets

-- any record names this instance, and it has these octets
pub record NamesAny (image : Files) (m : MapMeaning) (inst : InstRow) (octets : List ℕ) : Type 0 where
  pub row : MapRecord
  pub is_record : Contains m.records row
  pub is_named : Contains row.instances inst
  pub there : image (file.Inst inst.hash.0 inst.id.0) ≡ Some octets

-- Each attachment of an own save is stored once: no two of its instances hold equal octets, none holds those of a named
-- instance of the same hash and a lesser id, and the hash in the name is the SHA-1 of the octets (FIPS 180-4).
pub record StoredOnce (image : Files) (m : MapMeaning) : Type 0 where
  pub once : (a b : InstRow) (octets : List ℕ) → NamesOwn image m a octets → NamesOwn image m b octets → a.id ≡ b.id
  pub least : (a b : InstRow) (octets : List ℕ) → NamesOwn image m a octets → NamesAny image m b octets → b.hash ≡ a.hash → IsLess b.id.0 a.id.0 → ⊥
  pub hash : (a : InstRow) (octets : List ℕ) → NamesOwn image m a octets → a.hash.0 ≡ sha1 octets

-- Each record of an own save, listed or not, that stores a text stores its detached form.
abbrev pub KeepsDetached : Files → MapMeaning → Type 0
KeepsDetached image m = (row : MapRecord) (octets : List ℕ) → Contains m.records row → row.origin ≡ 0
    → (kept : StoresMessage image row octets) → AreDetached octets kept.stored.message.body kept.stored.meta.refs kept.instances

-- ---- the image

-- The image of a store with this id and these entries of its map log stands for the lists.
pub record StandsBy (image : Files) (store : List ℕ) (entries : List MapEntry) (lists : Lists) : Type 0 where
  pub map_log : HasMap image store entries
  pub mailboxes : AreMailboxes image (map_meaning store entries) (map_meaning store entries).boxes lists
  pub one_record : AllPairs (λ a b. a.guid ≢ b.guid) (map_meaning store entries).records
  pub once : StoredOnce image (map_meaning store entries)
  pub detached : KeepsDetached image (map_meaning store entries)

-- The image stands for the lists.
pub record Stands (image : Files) (lists : Lists) : Type 0 where
  pub store : List ℕ
  pub entries : List MapEntry
  pub by : StandsBy image store entries lists
