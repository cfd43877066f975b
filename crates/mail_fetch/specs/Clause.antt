-- The clauses of a fetch's step.
use Rattle.std.specs.Prelude.{◌≡◌, ℕ, true, false, List, Option, Some, None}
use Rattle.disk_model.specs.Disk.{Faults, Grows, History, IfTold, IsIdle, SameButFor, reading}
use Rattle.disk_model.specs.FaultCounts.{ChangeFaultCounted, NoFault}
use Rattle.disk_model.specs.declared.name.FileName.TheVariants.{Mail}
use Rattle.mdbox_base.specs.declared.ids.Uid.{Uid}
use Rattle.mdbox_base.specs.declared.progress.Did.{Did}
use Rattle.mdbox_base.specs.declared.progress.Progress.{Progress}
use Rattle.mdbox_base.specs.declared.replies.Reply.{Reply}
use Rattle.mdbox_base.specs.declared.requests.Request.{Request}
use Rattle.mdbox_base.specs.declared.requests.Request.TheVariants as request
use Rattle.model_kept.specs.Kept.{MailIsKept}
use Rattle.model_lists.specs.Lists.{ListedMessage, Lists}
use Rattle.model_meaning.specs.MapMeaning.{MapMeaning}
use Rattle.model_store.specs.Safe.{Safe}
use Rattle.model_store.specs.Settled.{files_of}
use Rattle.list_machine.specs.Machine.{message_at}
use Rattle.list_machine.specs.Run.{Run, and_then}
use Rattle.journal.specs.Events.{Around}
use Rattle.store_core.specs.Value.{StoreValue}
use Rattle.task_steps.specs.Step.{Seen, ShowsSeen, HasComeTo, and_told, DidEvent}
use Rattle.mail_fetch.specs.Claims.{IsReadyToFetch, used_by}
use Rattle.mail_fetch.specs.Events.{FetchesNext, NoChangeFault}
use Rattle.mail_fetch.specs.Failed.{HasFailedRead}
use Rattle.mail_fetch.specs.Stages.{IsAtFetch, Reading, StoresListed}
use Rattle.mail_fetch.specs.Task.{event_did, seen_in}
use Rattle.mail_fetch.specs.declared.task.FetchStage.{FetchStage}
use Rattle.mail_fetch.specs.declared.task.FetchStage.TheVariants as stage

-- the disk is modelled, and its files as they read are safe for the lists
abbrev pub ReadsSafe : Lists → Option History → Type 0
ReadsSafe lists None = ⊥
ReadsSafe lists (Some history) = Safe (files_of history.now) lists

-- Before the first event, if the lists have a message with this UID, the disk is modelled, and its files as they read store it: no
-- other lists say which octets are fetched. After it nothing more is asked of them.
abbrev pub CanFetch : FetchStage → List ℕ → Uid → Lists → MapMeaning → Option History → Type 0
CanFetch stage.First name uid lists m history = (message : ListedMessage) → message_at name uid.0 lists ≡ Some message → Reading (StoresListed m message) history
CanFetch now name uid lists m history = Unit {0}

-- The clause of a task's step (`Steps`), of lists of which this holds, unless the store is stopped.
abbrev pub StepsOf : (Lists → Type 0) → (Run → ℕ → List Reply → Type 0) → (Run → ℕ → List Reply → Type 0) → Around → Around → Request → Seen → Seen → Did → Option Reply → Type 0
StepsOf Holds Stood Stands around after request old new did ended =
    (run : Run) (lane place : ℕ) (said : List Reply) (lists : Lists) → HasComeTo run old → ShowsSeen old lists → (old.stopped ≡ false → Holds lists) → Stood run place said
    → (d : DidEvent around after run lane place said request lists old new did ended) × (ended ≡ None → Stands (and_then run d.makes.event) place (and_told said d.makes.answer))

-- It is so of a fetch that came from one stage to another, as a store is seen that has these pins.
abbrev pub FetchSteps : {D : Type 0} → Around → Around → List ℕ → Uid → FetchStage → FetchStage → StoreValue D → StoreValue D → Option History → Option History → Faults → Faults → Did → Option Reply → Type 0
FetchSteps around after name uid now next old new before later began faults did ended =
    StepsOf (λ lists. CanFetch now name uid lists old.map before) (IsAtFetch now old.stopped before) (IsAtFetch next new.stopped later) around after (request.Fetch name uid) (seen_in old before began) (seen_in new later faults) did ended

-- The event only reads: nothing of the disk has changed, and no change of it was tried. No read failed, unless the task will reply so.
pub record OnlyReadsDisk (next : FetchStage) (before later : Option History) (began faults : Faults) : Type 0 where
  pub idle : IsIdle before later
  pub fault : NoChangeFault began faults
  pub unfailed : (HasFailedRead next → ⊥) → NoFault began faults

-- The event removes a storage file: of no other file anything has changed, at each moment storage files and instances have what the map
-- needs, and no call failed. Or a change failed, and stopped the store; then too the map has what it needs.
pub record RemovesFromDisk {D : Type 0} (file : ℕ) (old new : StoreValue D) (before later : Option History) (began faults : Faults) : Type 0 where
  pub grows : Grows before later
  pub mail : MailIsKept old.map before later
  pub gone : new.stopped ≡ false → IfTold later (λ now. reading (now (Mail file)) ≡ None)
  pub others : new.stopped ≡ false → SameButFor (Mail file) before later
  pub fault : ChangeFaultCounted (new.stopped ≡ true) began faults
  pub unfailed : new.stopped ≡ false → NoFault began faults

-- Only an event that removes changes anything, and only of a store that runs.
abbrev pub MakesOfDisk : {D : Type 0} → FetchStage → FetchStage → StoreValue D → StoreValue D → Option History → Option History → Faults → Faults → Type 0
MakesOfDisk (stage.Removing file given) next old new before later began faults =
    (old.stopped ≡ true → OnlyReadsDisk next before later began faults) × (old.stopped ≡ false → RemovesFromDisk file.0 old new before later began faults)
MakesOfDisk now next old new before later began faults = OnlyReadsDisk next before later began faults

-- What an event says beside this. How it answers, over every disk, and what it did. The store is what the event made of it, but for
-- its disk, and of that only a removal changes anything. Where the store isn't stopped, the task is ready for its next event.
pub record FetchesAlone {D : Type 0} (name : List ℕ) (uid : ℕ) (now next : FetchStage) (did : Did) (answer : Progress) (old new : StoreValue D) (before later : Option History) (began faults : Faults) : Type 0 where
  pub replies : FetchesNext name uid now next answer old before began faults
  pub did_is : did ≡ event_did now next answer old.stopped
  pub same : new ≡ record (used_by now next old) { disk = new.disk }
  pub disk : MakesOfDisk now next old new before later began faults
  pub ready : new.stopped ≡ false → IsReadyToFetch next new
