-- What an event of a delivery finds, and where its task stands.
use Rattle.std.specs.Prelude.{◌≡◌, ◌+◌, ◌&&◌, ◌||◌, nat_le, ℕ, Bool, false, not, List, [], ◌∷◌, length, filter, if◌then◌else◌, Option, Some, None, IsSome}
use Rattle.std.specs.Option.{option_map_or, option_or}
use Rattle.mdbox_base.specs.declared.entries.InstRow.{InstRow}
use Rattle.mdbox_base.specs.declared.progress.Did.{Did}
use Rattle.mdbox_base.specs.declared.replies.Reply.{Reply}
use Rattle.mdbox_base.specs.declared.requests.Request.{Request}
use Rattle.model_mime.specs.Parts.{parts_in}
use Rattle.list_machine.specs.Run.{Run}
use Rattle.journal.specs.Events.{Around}
use Rattle.save_instances.specs.Attaching.{next_attachment, next_candidate}
use Rattle.storage_files.specs.declared.file.MailFile.{MailFile}
use Rattle.store_core.specs.Value.{StoreValue}
use Rattle.task_steps.specs.Step.{Seen, FindsRoom, HasNotBegun, Steps}
use Rattle.mail_save.specs.SaveStages.{IsTakingFile, IsPlacingMessage, IsStoringMessage, IsAddingMessage, IsLoweringCount}
use Rattle.mail_save.specs.declared.task.SaveStage.{SaveStage}
use Rattle.mail_save.specs.declared.task.SaveStage.TheVariants as stage

-- ---- what it finds

-- a storage file has room for so many octets, and may be taken
abbrev pub has_room_for : ℕ → MailFile → Bool
has_room_for size f = option_map_or (λ end. nat_le (end + size) 10485760) f.end false && not (f.taken || (f.emptied || (f.doomed || (f.sealed || f.barred))))

-- the last of those that do
abbrev pub room_among : ℕ → List MailFile → Option ℕ
room_among size [] = None
room_among size (f ∷ files) = option_or (room_among size files) (if has_room_for size f then Some f.file.0 else None)

-- An event that goes on with an attachment finds the known instance to compare it with, if any is left; the one that takes a file
-- finds the one that has room, if any. No other finds anything.
abbrev pub candidate_at : {D : Type 0} → SaveStage → StoreValue D → Option InstRow
candidate_at (stage.Attaching parts attaching) store = next_candidate attaching store.instances
candidate_at other store = None

abbrev pub room_at : {D : Type 0} → SaveStage → StoreValue D → Option ℕ
room_at (stage.Taking parts) store = room_among (length parts.laid.region) store.files.files
room_at other store = None

-- how many parts of a message can be detached
abbrev pub count_detachable : List ℕ → ℕ
count_detachable octets = length (filter (λ part. part.detachable) (parts_in octets))

-- A task at this stage has so many attachments, of which one has no instance yet, or has found so many instances.
abbrev pub HasItsParts : SaveStage → List ℕ → Type 0
HasItsParts (stage.Attaching parts attaching) octets = (length attaching.parts ≡ count_detachable octets) × IsSome (next_attachment attaching)
HasItsParts (stage.Taking parts) octets = length parts.rows ≡ count_detachable octets
HasItsParts other octets = Unit {0}

abbrev pub around_saving : {D : Type 0} → List ℕ → SaveStage → StoreValue D → Around
around_saving octets now store = record {
  parts = count_detachable octets;
  candidate = candidate_at now store;
  room = room_at now store;
  files = [];
  instance = None;
  damaged = [];
}

-- ---- where it stands

abbrev pub IsAtSave : SaveStage → Run → ℕ → List Reply → Type 0
IsAtSave (stage.First prepared) run place said = HasNotBegun run place said
IsAtSave (stage.Attaching parts attaching) run place said = IsTakingFile attaching.found run place said
IsAtSave (stage.Taking parts) run place said = IsTakingFile parts.rows run place said
IsAtSave (stage.Placing parts file) run place said = IsPlacingMessage parts.rows file.0 run place said
IsAtSave (stage.Storing at rows room) run place said = IsStoringMessage rows at.file.0 at.guid.0 run place said
IsAtSave (stage.Adding added room) run place said = IsAddingMessage added.guid.0 added.map_uid.0 run place said
IsAtSave (stage.GivingBack uid why room) run place said = IsLoweringCount uid.0 why run place said
IsAtSave stage.Ended run place said = ⊥

-- What a step says of every run in which, unless the store was stopped, no request has taken the storage file in which it finds room.
abbrev pub StepsWithRoom : (Run → ℕ → List Reply → Type 0) → (Run → ℕ → List Reply → Type 0) → Around → Around → Request → Seen → Seen → Did → Option Reply → Type 0
StepsWithRoom Stood Stands around after request old = Steps (λ run place said. Stood run place said × (old.stopped ≡ false → FindsRoom around run)) Stands around after request old
