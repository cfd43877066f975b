-- What the events of a fetch answer.
use Rattle.std.specs.Prelude.{◌≡◌, ◌<◌, ◌≤◌, ◌⊎◌, ◌++◌, ℕ, true, false, is_some, List, if◌then◌else◌, Option, Some, None}
use Rattle.std.specs.Option.{option_map_or}
use Rattle.disk_model.specs.Disk.{DiskState, History, Faults, IfTold}
use Rattle.mdbox_base.specs.Streams.{Rose}
use Rattle.mdbox_base.specs.declared.ids.FileNo.{FileNo}
use Rattle.mdbox_base.specs.declared.progress.Progress.{Progress}
use Rattle.mdbox_base.specs.declared.progress.Progress.TheVariants as progress
use Rattle.mdbox_base.specs.declared.replies.Refusal.{Refusal}
use Rattle.mdbox_base.specs.declared.replies.Refusal.TheVariants as refusal
use Rattle.mdbox_base.specs.declared.replies.Reply.{Reply}
use Rattle.mdbox_base.specs.declared.replies.Reply.TheVariants as reply
use Rattle.model_meaning.specs.BoxMeaning.{LogRow, BoxMeaning, row_at}
use Rattle.model_meaning.specs.MapMeaning.{MapRecord, record_at}
use Rattle.model_store.specs.Settled.{files_of}
use Rattle.storage_files.specs.Files.{end_in}
use Rattle.store_core.specs.Value.{StoreValue, list_named}
use Rattle.mail_fetch.specs.Parts.{first_read, left_after, pieces_left}
use Rattle.mail_fetch.specs.Region.{stored_at, RegionValue, unread, IsReplyFor}
use Rattle.mail_fetch.specs.Removal.{is_last_pin}
use Rattle.mail_fetch.specs.declared.parts.StoredAt.{StoredAt}
use Rattle.mail_fetch.specs.declared.task.FetchStage.{FetchStage}
use Rattle.mail_fetch.specs.declared.task.FetchStage.TheVariants as stage

-- ---- the first

-- why nothing is fetched: the store is stopped, no mailbox has the name, or no message of it has the UID
abbrev pub fetch_refusal : {D : Type 0} → List ℕ → ℕ → StoreValue D → Option Refusal
fetch_refusal name uid store =
    if store.stopped then Some refusal.Stopped else option_map_or (λ m. if is_some (row_at m uid) then None else Some refusal.NoMessage) (list_named store name) (Some refusal.NoMailbox)

-- the mailbox with this name has this row of this UID, and the row's record is this one
pub record IsStoredBy {D : Type 0} (name : List ℕ) (uid : ℕ) (store : StoreValue D) (row : LogRow) (entry : MapRecord) : Type 0 where
  pub mailbox : BoxMeaning
  pub named : list_named store name ≡ Some mailbox
  pub listed : row_at mailbox uid ≡ Some row
  pub stored : record_at store.map row.map_uid ≡ Some entry
  pub same : entry.guid ≡ row.guid

-- the message with this UID is pinned, and nothing of it is read
abbrev pub IsPinned : {D : Type 0} → List ℕ → ℕ → StoreValue D → RegionValue → Type 0
IsPinned name uid store region = (row : LogRow) × (entry : MapRecord) × IsStoredBy name uid store row entry × (region ≡ unread (stored_at row entry))

-- its storage file isn't there, so that it can't be pinned: the message is damaged
abbrev pub IsAbsent : {D : Type 0} → List ℕ → ℕ → StoreValue D → Refusal → Type 0
IsAbsent name uid store why = (row : LogRow) × (entry : MapRecord) × IsStoredBy name uid store row entry × (end_in entry.file store.files.files ≡ None) × (why ≡ refusal.Damaged (record { 0 = entry.file }) entry.offset)

-- The first event is refused, or it pins the message and the request goes on, or there is no memory for the octets, or no file to pin.
pub record IsBegun {D : Type 0} (name : List ℕ) (uid : ℕ) (store : StoreValue D) (next : FetchStage) (answer : Progress) : Type 0 where
  pub refused : (why : Refusal) → fetch_refusal name uid store ≡ Some why → (answer ≡ progress.Done (reply.Refused why)) × (next ≡ stage.First)
  pub begun : fetch_refusal name uid store ≡ None
      → ((answer ≡ progress.More) × ((region : RegionValue) × IsPinned name uid store region × (next ≡ stage.Reading region))) ⊎ ((why : Refusal) × ((why ≡ refusal.NoMemory) ⊎ IsAbsent name uid store why) × (answer ≡ progress.Done (reply.Refused why)) × (next ≡ stage.First))

-- ---- the pieces

-- what a disk reads as the next piece
abbrev pub next_piece : RegionValue → DiskState → List ℕ
next_piece region disk = first_read (files_of disk) region.left

abbrev pub with_piece : RegionValue → List ℕ → RegionValue
with_piece region piece = record { from = region.from; octets = region.octets ++ piece; left = left_after region.left }

-- Behind this piece others are to be read, or it was the last, and it is known what will be replied.
pub record GoesOnWith (region : RegionValue) (next : FetchStage) : Type 0 where
  pub more : 0 < pieces_left region.left → next ≡ stage.Reading region
  pub last : pieces_left region.left ≡ 0 → (given : Reply) × (next ≡ stage.Unpinning region.from given) × IsReplyFor region.from region.octets given

-- The next piece is what the disk reads there, or a read failed. Either way the request goes on.
abbrev pub IsPieceRead : RegionValue → FetchStage → Option History → Faults → Faults → Type 0
IsPieceRead region next history old new =
    ((piece : List ℕ) × IfTold history (λ disk. piece ≡ next_piece region disk) × GoesOnWith (with_piece region piece) next)
    ⊎ (Rose old.reads new.reads × (next ≡ stage.Unpinning region.from (reply.Refused refusal.ReadFault)))

-- ---- what comes after them

-- The pin is given back. If it was the last one of a doomed file, the request goes on, and the file is removed next; else the reply is given.
pub record IsUnpinned {D : Type 0} (from : StoredAt) (given : Reply) (next : FetchStage) (answer : Progress) (store : StoreValue D) : Type 0 where
  pub last : is_last_pin from.file.0 store ≡ true → (answer ≡ progress.More) × (next ≡ stage.Removing from.file given)
  pub other : is_last_pin from.file.0 store ≡ false → (answer ≡ progress.Done given) × (next ≡ stage.First)

-- The file is removed, and the reply given. Or a change of the disk failed: the store is stopped, and the task stays where it was.
abbrev pub IsFileRemoved : FileNo → Reply → FetchStage → Progress → Faults → Faults → Type 0
IsFileRemoved file given next answer old new =
    ((answer ≡ progress.Done given) × (next ≡ stage.First)) ⊎ (Rose old.changes new.changes × (answer ≡ progress.Done (reply.Refused refusal.Stopped)) × (next ≡ stage.Removing file given))

-- ---- each event

-- A store that is stopped replies so to each event, and the task stays where it is. Else the first event pins, those after it
-- read a piece each, another one unpins, and one more removes the file if it is to be removed; the last one gives the reply.
abbrev pub FetchesNext : {D : Type 0} → List ℕ → ℕ → FetchStage → FetchStage → Progress → StoreValue D → Option History → Faults → Faults → Type 0
FetchesNext name uid stage.First next answer store history old new = IsBegun name uid store next answer
FetchesNext name uid (stage.Reading region) next answer store history old new =
    (store.stopped ≡ true → (answer ≡ progress.Done (reply.Refused refusal.Stopped)) × (next ≡ stage.Reading region)) × (store.stopped ≡ false → (answer ≡ progress.More) × IsPieceRead region next history old new)
FetchesNext name uid (stage.Unpinning from given) next answer store history old new =
    (store.stopped ≡ true → (answer ≡ progress.Done (reply.Refused refusal.Stopped)) × (next ≡ stage.Unpinning from given)) × (store.stopped ≡ false → IsUnpinned from given next answer store)
FetchesNext name uid (stage.Removing file given) next answer store history old new =
    (store.stopped ≡ true → (answer ≡ progress.Done (reply.Refused refusal.Stopped)) × (next ≡ stage.Removing file given)) × (store.stopped ≡ false → IsFileRemoved file given next answer old new)

-- no change of the disk was counted as failed, and no failed read is forgotten
pub record NoChangeFault (old new : Faults) : Type 0 where
  pub reads : old.reads ≤ new.reads
  pub changes : new.changes ≡ old.changes
