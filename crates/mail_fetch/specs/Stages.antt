-- Where a fetch stands in a run.
use Rattle.std.specs.Prelude.{◌≡◌, ◌==◌, ◌+◌, ◌⊎◌, ℕ, Bool, true, false, List, [], ◌∷◌, ◌++◌, length, Option, Some, None, All}
use Rattle.std.specs.List.{list_any}
use Rattle.disk_model.specs.Disk.{Files, History}
use Rattle.mdbox_base.specs.declared.replies.Refusal.{Refusal}
use Rattle.mdbox_base.specs.declared.replies.Refusal.TheVariants as refusal
use Rattle.mdbox_base.specs.declared.replies.Reply.{Reply}
use Rattle.mdbox_base.specs.declared.replies.Reply.TheVariants as reply
use Rattle.model_meaning.specs.BoxMeaning.{LogRow}
use Rattle.model_lists.specs.Lists.{ListedMessage}
use Rattle.model_meaning.specs.MapMeaning.{MapMeaning, MapRecord, record_of}
use Rattle.model_store.specs.Safe.{IsThereWhole}
use Rattle.model_store.specs.Settled.{files_of}
use Rattle.model_store.specs.Stands.{StoresMessage}
use Rattle.list_machine.specs.Run.{First, ReadsPiece, Unpins, RunEvent, Run, is_one_of, own_events}
use Rattle.journal.specs.Events.{leaves_doomed}
use Rattle.journal.specs.Journal.{refusal_in}
use Rattle.task_steps.specs.Step.{HasNotBegun}
use Rattle.mail_fetch.specs.Parts.{parts_to_read, parts_read, pieces_left}
use Rattle.mail_fetch.specs.Region.{RegionValue, stored_at}
use Rattle.mail_fetch.specs.declared.parts.StoredAt.{StoredAt}
use Rattle.mail_fetch.specs.declared.task.FetchStage.{FetchStage}
use Rattle.mail_fetch.specs.declared.task.FetchStage.TheVariants as stage

-- ---- its own events

-- the event read a piece, and was refused by this or not at all
pub record ReadPiece (refused : Option Refusal) (event : RunEvent) : Type 0 where
  pub part : event.part ≡ ReadsPiece
  pub pinned : event.pins ≡ []
  pub refused_is : event.refused ≡ refused

-- The first of its own events pinned the file and the instances, for as many pieces as the region and the instances have. These
-- are those behind it.
pub record HasPinned (from : StoredAt) (own behind : List RunEvent) : Type 0 where
  pub pin : RunEvent
  pub own_are : own ≡ pin ∷ behind
  pub part : pin.part ≡ First
  pub unrefused : pin.refused ≡ None
  pub pins : pin.pins ≡ record { file = from.file.0; pieces = pieces_left (parts_to_read from); instances = from.instances } ∷ []

-- it has read all pieces but so many
abbrev pub HasReadAllBut : StoredAt → ℕ → List RunEvent → Type 0
HasReadAllBut from left own = (behind : List RunEvent) × HasPinned from own behind × All (ReadPiece None) behind × (length behind + left ≡ pieces_left (parts_to_read from))

-- what a piece was refused by, behind which the request goes on
abbrev pub IsPieceRefusal : Refusal → Type 0
IsPieceRefusal refusal.ReadFault = Unit {0}
IsPieceRefusal (refusal.Damaged file offset) = Unit {0}
IsPieceRefusal other = ⊥

-- It unpins next: all pieces are read, or the last event was refused. By this it will reply.
abbrev pub UnpinsNext : StoredAt → Reply → List RunEvent → Type 0
UnpinsNext from given own =
    ((refusal_in given ≡ None) × HasReadAllBut from 0 own)
    ⊎ ((why : Refusal) × (front : List RunEvent) × (last : RunEvent) × (refusal_in given ≡ Some why) × IsPieceRefusal why × HasPinned from own (front ++ last ∷ []) × All (ReadPiece None) front × ReadPiece (Some why) last)

-- It has unpinned this file, and removes it next. By this it will reply.
pub record RemovesNext (file : ℕ) (given : Reply) (own : List RunEvent) : Type 0 where
  pub from : StoredAt
  pub file_is : from.file.0 ≡ file
  pub front : List RunEvent
  pub unpinned : UnpinsNext from given front
  pub last : RunEvent
  pub own_are : own ≡ front ++ last ∷ []
  pub part : last.part ≡ Unpins
  pub none_pinned : last.pins ≡ []
  pub unrefused : last.refused ≡ None

-- An event neither pins nor removes the file that a task removes next. So it is still doomed then, and without a pin.
abbrev pub SparesFile : FetchStage → RunEvent → Type 0
SparesFile (stage.Removing file given) event = (list_any (λ p. p.file == file.0) event.pins ≡ false) × (is_one_of event.removed file.0 ≡ false)
SparesFile now event = Unit {0}

-- ---- what the disk reads

-- The files store a listed message: its record's region has its octets, and none of the record's instances is missing.
pub record StoresListed (m : MapMeaning) (message : ListedMessage) (files : Files) : Type 0 where
  pub entry : MapRecord
  pub found : record_of m message.guid ≡ Some entry
  pub stores : StoresMessage files entry message.octets
  pub sizes : All (IsThereWhole files) entry.instances

-- The files store this text where the fetch reads, and the octets that were read are the first of those that they have there.
pub record IsFrontOfStored (region : RegionValue) (octets : List ℕ) (files : Files) : Type 0 where
  pub row : LogRow
  pub entry : MapRecord
  pub from : region.from ≡ stored_at row entry
  pub listed : length octets ≡ row.size
  pub stores : StoresMessage files entry octets
  pub sizes : All (IsThereWhole files) entry.instances
  pub front : region.octets ++ parts_read files region.left ≡ parts_read files (parts_to_read region.from)

-- the disk is modelled, and its files as they read are so
abbrev pub Reading : (Files → Type 0) → Option History → Type 0
Reading P None = ⊥
Reading P (Some history) = P (files_of history.now)

-- A message that is stored is replied, unless a read failed.
abbrev pub IsTrueReply : List ℕ → Reply → Type 0
IsTrueReply octets given = (given ≡ reply.Fetched octets) ⊎ (given ≡ reply.Refused refusal.ReadFault)

-- ---- the stages

-- Where the task stands, by whether the store is stopped and by what its disk tells: what is true of the run, for the place of its
-- request, and of the answers of its steps. The first event has answered the octets of the message as it was listed then, and the disk
-- still stores them, unless the store is stopped. A file that it removes next is doomed and has no pin.
abbrev pub IsAtFetch : FetchStage → Bool → Option History → Run → ℕ → List Reply → Type 0
IsAtFetch stage.First stopped history run place said = HasNotBegun run place said
IsAtFetch (stage.Reading region) stopped history run place said =
    HasReadAllBut region.from (pieces_left region.left) (own_events place run) × ((octets : List ℕ) × (said ≡ reply.Fetched octets ∷ []) × (stopped ≡ false → Reading (IsFrontOfStored region octets) history))
IsAtFetch (stage.Unpinning from given) stopped history run place said =
    UnpinsNext from given (own_events place run) × ((octets : List ℕ) × (said ≡ reply.Fetched octets ∷ []) × IsTrueReply octets given)
IsAtFetch (stage.Removing file given) stopped history run place said =
    RemovesNext file.0 given (own_events place run) × (leaves_doomed place run ≡ true) × ((octets : List ℕ) × (said ≡ reply.Fetched octets ∷ []) × IsTrueReply octets given)
