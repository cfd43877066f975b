-- The clause of a purge's step.
use Rattle.std.specs.Prelude.{◌≡◌, ◌≢◌, ◌≤◌, ◌↔◌, ◌||◌, ◌⊎◌, ℕ, true, false, List, [], find, Option, None, Result, Ok, Err}
use Rattle.std.specs.Option.{option_map}
use Rattle.disk_model.specs.Disk.{Between, Faults, Grows, History, IsIdle}
use Rattle.mdbox_base.specs.Streams.{Rose}
use Rattle.mdbox_base.specs.declared.progress.Did.{Did}
use Rattle.mdbox_base.specs.declared.progress.Did.TheVariants as did
use Rattle.mdbox_base.specs.declared.progress.Progress.{Progress}
use Rattle.mdbox_base.specs.declared.progress.Progress.TheVariants as progress
use Rattle.mdbox_base.specs.declared.replies.Refusal.{Refusal}
use Rattle.mdbox_base.specs.declared.replies.Refusal.TheVariants as refusal
use Rattle.mdbox_base.specs.declared.script.Half.TheVariants as half
use Rattle.mdbox_base.specs.declared.replies.Reply.TheVariants as reply
use Rattle.model_kept.specs.Kept.{MailIsKept}
use Rattle.model_meaning.specs.MapMeaning.{MapMeaning}
use Rattle.model_store.specs.Settled.{files_of}
use Rattle.task_claims.specs.Stable.{MovesOwnClaims}
use Rattle.purge_task.specs.Claims.{purge_claims}
use Rattle.purge_task.specs.declared.task.PurgeStage.{PurgeStage}
use Rattle.purge_task.specs.declared.task.PurgeStage.TheVariants as stage
use Rattle.mdbox_base.specs.declared.entries.InstRow.{InstRow}
use Rattle.mdbox_base.specs.declared.replies.Reply.{Reply}
use Rattle.mdbox_base.specs.declared.requests.Request.TheVariants as request
use Rattle.map_index.specs.Shown.{is_instance_named}
use Rattle.list_machine.specs.Run.{Run}
use Rattle.journal.specs.Events.{Around}
use Rattle.journal.specs.Found.{is_held, is_pinned_instance, is_taken}
use Rattle.sis_store.specs.Instances.{holders_in}
use Rattle.storage_files.specs.Files.{is_emptied_in, is_taken_in, pins_in}
use Rattle.store_core.specs.Knows.{knows_instance}
use Rattle.store_core.specs.Removing.{is_useless}
use Rattle.store_core.specs.Value.{StoreValue}
use Rattle.store_seen.specs.Seeing.{seen_of}
use Rattle.task_steps.specs.Step.{Seen, Steps, ended_by}
use Rattle.purge_task.specs.Found.{FindsUnclean, IsFindRefusal}
use Rattle.purge_task.specs.Keeping.{HasPurged, PurgeValue}
use Rattle.purge_task.specs.Quiet.{HaveSameRegions, files_to_empty}
use Rattle.purge_task.specs.Stages.{IsAtPurge}

-- ---- what it finds

-- the instance that nobody needs with the least id
abbrev pub next_useless_of : {D : Type 0} → StoreValue D → Option InstRow
next_useless_of store = option_map (λ k. k.row) (find (λ k. is_useless store.map k) store.instances.known)

-- An event finds that instance, and the first one finds these files.
abbrev pub around_purging : {D : Type 0} → List ℕ → StoreValue D → Around
around_purging files store = record {
  parts = 0;
  candidate = None;
  room = None;
  files = files;
  instance = next_useless_of store;
  damaged = [];
}

-- A store doesn't say who has taken its files, or who holds and pins its instances. So a purge does as its clause says only of a run whose
-- requests have taken just those files that are taken in the store; have found, placed or pinned instances that are held or named in it;
-- and all that are held.
pub record TellsUses {D : Type 0} (run : Run) (store : StoreValue D) : Type 0 where
  pub taken : (file : ℕ) → 1 ≤ file → is_taken run file ≡ (is_taken_in file store.files.files || is_emptied_in file store.files.files)
  pub used : (instance : InstRow) → (is_held run instance || is_pinned_instance run instance) ≡ true → (1 ≤ holders_in instance.id store.instances.known) ⊎ (is_instance_named store.map instance.id.0 ≡ true)
  pub held : (instance : InstRow) → knows_instance store instance ≡ true → 1 ≤ holders_in instance.id store.instances.known → (is_held run instance || is_pinned_instance run instance) ≡ true

-- ---- the clause

-- a store as an event sees it
abbrev pub seen_by_purge : {D : Type 0} → StoreValue D → Option History → Faults → Seen
seen_by_purge store history faults = seen_of (λ file. pins_in file store.files.files) store history faults

-- What a step says (`Steps`), where its first event finds these files.
abbrev pub PurgeSteps : {D : Type 0} → List ℕ → Around → PurgeValue → PurgeValue → StoreValue D → StoreValue D → Option History → Option History → Faults → Faults → Option Reply → Type 0
PurgeSteps files after t next old new before later began faults ended =
    Steps (λ run place said. IsAtPurge t old run place said × (old.stopped ≡ false → TellsUses run old)) (IsAtPurge next new) (around_purging files old) after request.Purge (seen_by_purge old before began) (seen_by_purge new later faults) next.did ended

-- The first event changes nothing on the disk. Where the purge goes on, the files that it has taken to empty are just those that aren't clean;
-- and where it is refused because numbers have run out, the targets of these files alone want them.
pub record BeginsPurge {D : Type 0} (answer : Progress) (next : PurgeStage) (old : StoreValue D) (before later : Option History) : Type 0 where
  pub idle : IsIdle before later
  pub found : answer ≡ progress.More → FindsUnclean old before (files_to_empty next)
  pub full : (most : ℕ) → answer ≡ progress.Done (reply.Refused (refusal.StoreFull most)) → IsFindRefusal old before (refusal.StoreFull most)

-- each record that is still there has the octets that it had
abbrev pub KeepsRegions : MapMeaning → MapMeaning → Option History → Option History → Type 0
KeepsRegions first m = Between (λ a b. HaveSameRegions (files_of a) (files_of b) first m)

-- What a step says, from one stage to another: that it is ready for its next event, and which event it was of whichever run has come to the
-- store. Only the first one is refused, but by a fault. It replies that the store is stopped if and only if that is so then. Unless it is,
-- each record keeps the octets of its region, wherever it lies; the step moves only its own claims, and leaves to other tasks what is theirs;
-- and one that was replied claims nothing. What the map needs of storage files and instances stays at each moment. A read failed only if it
-- replies so; and of a store that ran, a change of the disk failed if and only if the step stopped it.
pub record IsPurgeStep {D : Type 0} (t next : PurgeValue) (answer : Progress) (old new : StoreValue D) (before later : Option History) (began faults : Faults) : Type 0 where
  pub ready : answer ≡ progress.More → new.stopped ≡ false → HasPurged next.stage new later
  pub does : (files : List ℕ) × ((around : Around) → PurgeSteps files around t next old new before later began faults (ended_by answer))
  pub first : t.stage ≡ stage.First → BeginsPurge answer next.stage old before later
  pub refused : (why : Refusal) → answer ≡ progress.Done (reply.Refused why) → why ≢ refusal.ReadFault → why ≢ refusal.Stopped → t.stage ≡ stage.First
  pub stopped : (answer ≡ progress.Done (reply.Refused refusal.Stopped)) ↔ (new.stopped ≡ true)
  pub regions : new.stopped ≡ false → KeepsRegions old.map new.map before later
  pub claims : new.stopped ≡ false → MovesOwnClaims (purge_claims t.stage) (purge_claims next.stage) answer old new before later
  pub grows : Grows before later
  pub mail : MailIsKept old.map before later
  pub reads : began.reads ≤ faults.reads
  pub calm : (answer ≡ progress.Done (reply.Refused refusal.ReadFault) → ⊥) → faults.reads ≡ began.reads
  pub changes : began.changes ≤ faults.changes
  pub unfailed : new.stopped ≡ false → faults.changes ≡ began.changes
  pub fell : old.stopped ≡ false → new.stopped ≡ true → Rose began.changes faults.changes × (faults.reads ≡ began.reads)

-- the task at this stage, with nothing done by its last event
abbrev pub at_stage : PurgeStage → PurgeValue → PurgeValue
at_stage now t = record t { stage = now; did = did.Quiet }

-- ---- its parts

-- What a part of a step answers: the next stage, or why the purge is refused.
abbrev pub answer_of : Result PurgeStage Refusal → Progress
answer_of (Ok next) = progress.More
answer_of (Err why) = progress.Done (reply.Refused why)

-- What an event did by which the purge was refused: a step, unless for lack of memory or by a fault.
abbrev pub did_of_refusal : Refusal → Did
did_of_refusal refusal.NoMemory = did.Quiet
did_of_refusal refusal.ReadFault = did.Quiet
did_of_refusal refusal.Stopped = did.Failed
did_of_refusal why = did.Step half.Whole

-- the task behind a part that answers this
abbrev pub came_to : Result PurgeStage Refusal → PurgeValue → PurgeValue
came_to (Ok next) t = record t { stage = next; did = did.Quiet }
came_to (Err why) t = record t { stage = stage.First; did = did_of_refusal why }

-- the task with nothing counted
abbrev pub uncounted : PurgeValue → PurgeValue
uncounted t = record t { dropped = 0; files = 0; instances = 0 }
