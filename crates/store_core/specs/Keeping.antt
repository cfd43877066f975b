-- What calls and events leave to tasks that have begun.
use Rattle.std.specs.Prelude.{◌≡◌, ◌⊎◌, ◌<◌, ◌≤◌, ◌+◌, ℕ, List, count_by, map, Option, Some}
use Rattle.std.specs.Option.{IfSome}
use Rattle.std.specs.Str.{bytes_eq}
use Rattle.disk_model.specs.Disk.{DiskState, History, Between, named, reading}
use Rattle.disk_model.specs.declared.name.FileName.TheVariants as file
use Rattle.mdbox_base.specs.declared.entries.InstRow.{InstRow}
use Rattle.mdbox_base.specs.declared.ids.Hash.{Hash}
use Rattle.mdbox_base.specs.declared.ids.InstId.{InstId}
use Rattle.model_meaning.specs.BoxMeaning.{LogRow, row_at}
use Rattle.model_meaning.specs.MapMeaning.{MapMeaning, MapRecord}
use Rattle.sis_store.specs.Comparing.{IsUnlikeCompared}
use Rattle.sis_store.specs.Instances.{holders_in}
use Rattle.sis_store.specs.OnDisk.{instance_file}
use Rattle.store_core.specs.StoreInstances.{AreInstancesFirm, IsKnownRow, IsFirstKnown}
use Rattle.store_core.specs.Value.{StoreValue, list_numbered}

-- each storage file and each instance is as it was
abbrev pub KeepsMail : Option History → Option History → Type 0
KeepsMail = Between (λ a b. ((number : ℕ) → b (file.Mail number) ≡ a (file.Mail number)) × ((hash id : List ℕ) → b (file.Inst hash id) ≡ a (file.Inst hash id)))

-- Of the store's value no more has changed than what its logs mean, what is due, the numbers drawn, and whether it is stopped: its
-- storage files, its instances and the logs that were made are as they were.
abbrev pub KeepsRest : {D : Type 0} → StoreValue D → StoreValue D → Type 0
KeepsRest old new = new ≡ record old { disk = new.disk; map_log = new.map_log; map = new.map; boxes = new.boxes; drawn = new.drawn; dues = new.dues; stopped = new.stopped }

-- The mailbox with this number, if it is there, lists no other message with this UID than one of this record, and will list none:
-- the UID lies below its next one. The number was given, so that no mailbox which is made later has it.
pub record KeepsUid {D : Type 0} (number uid held : ℕ) (store : StoreValue D) : Type 0 where
  pub given : number ≤ store.map.highest.mailbox
  pub below : IfSome (list_numbered store number) (λ m. uid < m.next)
  pub same : IfSome (list_numbered store number) (λ m. (row : LogRow) → row_at m uid ≡ Some row → row.map_uid ≡ held)

-- Of whatever message another task copies or moves: if its mailbox lists no other message with its UID, it lists none afterwards.
abbrev pub KeepsUids : {D : Type 0} → StoreValue D → StoreValue D → Type 0
KeepsUids old new = (number uid held : ℕ) → KeepsUid number uid held old → KeepsUid number uid held new

-- ---- instances

-- an instance is as it was, or its name was synced
abbrev pub SyncsInstances : DiskState → DiskState → Type 0
SyncsInstances a b = (hash id : List ℕ) → (b (file.Inst hash id) ≡ a (file.Inst hash id)) ⊎ (b (file.Inst hash id) ≡ named (a (file.Inst hash id)))

-- the records of two maps are of the same origins and name the same instances
abbrev pub origin_and_names : MapRecord → ℕ × List InstRow
origin_and_names row = (row.origin, row.instances)

abbrev pub NameTheSame : MapMeaning → MapMeaning → Type 0
NameTheSame m n = map origin_and_names n.records ≡ map origin_and_names m.records

-- Where a record that is made may name whichever instance is known, it may afterwards.
pub record KeepsFirm {D : Type 0} (old new : StoreValue D) (before after : Option History) : Type 0 where
  pub stays : Between (λ a b. AreInstancesFirm old.instances.known old.map a → AreInstancesFirm new.instances.known new.map b) before after

-- What an event leaves to a task that compares instances, or has found some: each known instance is known and reads as it did, and
-- is the first of its octets if it was; what was compared stays compared; and those that may be named may be so still.
pub record KeepsInstances {D : Type 0} (old new : StoreValue D) (before after : Option History) : Type 0 where
  pub store : new.instances.store ≡ old.instances.store
  pub drawn : old.instances.highest ≤ new.instances.highest
  pub known : (row : InstRow) → IsKnownRow old.instances.known row → IsKnownRow new.instances.known row
  pub reads : Between (λ a b. (row : InstRow) → IsKnownRow old.instances.known row → reading (b (instance_file row)) ≡ reading (a (instance_file row))) before after
  pub first : Between (λ a b. (row : InstRow) → IsKnownRow old.instances.known row → IsFirstKnown old.instances.known a row → IsFirstKnown new.instances.known b row) before after
  pub compared : (hash : Hash) (size : ℕ) (octets : List ℕ) (last : Option InstId) (drawn : ℕ) → drawn ≤ old.instances.highest
      → IsUnlikeCompared old.instances.store hash size octets last drawn old.instances.known before → IsUnlikeCompared old.instances.store hash size octets last drawn new.instances.known after
  pub firm : KeepsFirm old new before after

-- each instance reads as it did
abbrev pub ReadsInstances : DiskState → DiskState → Type 0
ReadsInstances a b = (hash id : List ℕ) → reading (b (file.Inst hash id)) ≡ reading (a (file.Inst hash id))

-- how often a task holds an instance that has found these, once for each row of its id
abbrev pub holds_of : List InstRow → InstId → ℕ
holds_of found id = count_by (λ row. bytes_eq row.id.0 id.0) found

-- By as many as a task's own holds of an instance grow or shrink, those of all tasks do.
abbrev pub MovesHolds : {D : Type 0} → (InstId → ℕ) → (InstId → ℕ) → StoreValue D → StoreValue D → Type 0
MovesHolds mine mine_now old new = (id : InstId) → holders_in id new.instances.known + mine id ≡ holders_in id old.instances.known + mine_now id
