-- What a caller sees of a fetch, and of the store that it works on.
use Rattle.std.specs.Prelude.{◌+◌, ◌<◌, ◌==◌, ℕ, Bool, false, List, All, Option, if◌then◌else◌}
use Rattle.disk_model.specs.Disk.{History, Faults}
use Rattle.mdbox_base.specs.declared.ids.Uid.{Uid}
use Rattle.mdbox_base.specs.declared.progress.Did.{Did}
use Rattle.mdbox_base.specs.declared.progress.Did.TheVariants as did
use Rattle.mdbox_base.specs.declared.progress.Progress.{Progress}
use Rattle.mdbox_base.specs.declared.progress.Progress.TheVariants as progress
use Rattle.mdbox_base.specs.declared.replies.Refusal.{Refusal}
use Rattle.mdbox_base.specs.declared.replies.Reply.TheVariants as reply
use Rattle.mdbox_base.specs.declared.script.Half.TheVariants as half
use Rattle.list_machine.specs.Machine.{is_step}
use Rattle.storage_files.specs.Files.{pins_in}
use Rattle.store_core.specs.Value.{StoreValue}
use Rattle.store_seen.specs.Seeing.{seen_of}
use Rattle.task_steps.specs.Step.{Seen}
use Rattle.mail_fetch.specs.Parts.{HasSomeOctets, pieces_left}
use Rattle.mail_fetch.specs.declared.task.FetchStage.{FetchStage}
use Rattle.mail_fetch.specs.declared.task.FetchStage.TheVariants as stage

-- The mailbox and the UID of the message, which event is next, and what the last one did: nothing before the first.
pub record FetchValue : Type 0 where
  pub name : List ℕ
  pub uid : Uid
  pub stage : FetchStage
  pub did : Did

-- What an event did by which the request was refused: a step, unless for lack of memory, a fault, or damage. And what each event
-- did, unless a change of the disk failed: the first one makes the step.
abbrev pub refusing_did : Refusal → Did
refusing_did why = if is_step why then did.Step half.Whole else did.Quiet

abbrev pub fetch_did : FetchStage → Progress → Did
fetch_did stage.First progress.More = did.Step half.Whole
fetch_did stage.First (progress.Done (reply.Refused why)) = refusing_did why
fetch_did now answer = did.Quiet

-- What an event did by which a task came from one stage to another, by whether the store was stopped before: a removal in which a change
-- of the disk fails leaves the task where it was.
abbrev pub event_did : FetchStage → FetchStage → Progress → Bool → Did
event_did (stage.Removing file given) (stage.Removing other reply) answer false = did.Failed
event_did now next answer stopped = fetch_did now answer

-- The most pieces that a message has: 65,536 of its region, and as many of each of 65,535 instances.
abbrev pub most_pieces : ℕ
most_pieces = 4294967296

-- How many events are still to come at the most: before the first, three and as many as a message may have pieces. So no event of
-- another task changes it.
abbrev pub events_left : FetchStage → ℕ
events_left stage.First = 4294967299
events_left (stage.Reading region) = pieces_left region.left + 2
events_left (stage.Unpinning from given) = 2
events_left (stage.Removing file given) = 1

-- a task that reads has a piece left to read, and each part that is left has octets
abbrev pub HasPieceLeft : FetchStage → Type 0
HasPieceLeft (stage.Reading region) = (0 < pieces_left region.left) × All HasSomeOctets region.left
HasPieceLeft other = Unit {0}

-- how many pins of a file a task has that pins this one
abbrev pub one_pin : ℕ → ℕ → ℕ
one_pin pinned file = if pinned == file then 1 else 0

-- how many pins each storage file of a store has, and a store as an event of a fetch sees it, with these pins, what its disk tells and
-- the faults that it has counted
abbrev pub pins_kept_in : {D : Type 0} → StoreValue D → ℕ → ℕ
pins_kept_in store file = pins_in file store.files.files

abbrev pub seen_in : {D : Type 0} → StoreValue D → Option History → Faults → Seen
seen_in store history faults = seen_of (pins_kept_in store) store history faults
