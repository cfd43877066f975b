-- Beside an event of another lane a task stands in the run with that event, which has come to the store; or the store is stopped, and the
-- event did nothing to a file that the task removes.
use Rattle.std.proofs.Common.{◌≡◌, ℕ, Bool, true, false, List, [], ◌∷◌, All, Option, Some, None, refl, sym, ◌∙◌, ap, subst, inl, inr}
use Rattle.std.specs.Prelude.{◌≢◌, ◌⊎◌, ◌++◌, ◌==◌, ◌+◌, AllPairs}
use Rattle.std.specs.List.{list_any}
use Rattle.std.specs.Option.{IfSome}
use Rattle.std.proofs.lemmas.List.Elements.{All-cons, All-nil, All-weaker, All-pop}
use Rattle.disk_model.specs.Disk.{Faults, History}
use Rattle.mdbox_base.specs.declared.progress.Did.{Did}
use Rattle.mdbox_base.specs.declared.progress.Did.TheVariants as did
use Rattle.mdbox_base.specs.declared.replies.Refusal.{Refusal}
use Rattle.mdbox_base.specs.declared.replies.Refusal.TheVariants as refusal
use Rattle.mdbox_base.specs.declared.replies.Reply.{Reply}
use Rattle.mdbox_base.specs.declared.requests.Request.{Request}
use Rattle.model_lists.specs.Lists.{Lists}
use Rattle.model_octets.proofs.PairLemmas.{pairs_head, pairs_tail}
use Rattle.list_machine.specs.Run.{Pin, Run, RunEvent, and_then, is_one_of}
use Rattle.journal.specs.Events.{DidNothing}
use Rattle.journal.specs.Journal.{Broken, JournalStep, Requests}
use Rattle.journal.specs.Makes.{StaysStopped}
use Rattle.serving.specs.Lanes.{IsInTurn, LaneStands, LaneValue, said_by}
use Rattle.serving.specs.Serving.{IsServing}
use Rattle.store_core.specs.Value.{StoreValue}
use Rattle.task_steps.specs.Serves.{NoneStopped}
use Rattle.task_steps.specs.Step.{HasComeTo, Seen, Went}
use Rattle.mail_fetch.specs.Stages.{SparesFile}
use Rattle.mail_fetch.specs.Task.{seen_in}
use Rattle.mail_fetch.specs.declared.task.FetchStage.{FetchStage}
use Rattle.mail_fetch.specs.declared.task.FetchStage.TheVariants as stage
use Rattle.lane_tasks.specs.Clause.{PassesInRun, SparesTask}
use Rattle.lane_tasks.specs.Tasks.{StandsTask}
use Rattle.lane_tasks.specs.declared.task.Task.{Task}
use Rattle.lane_tasks.specs.declared.task.Task.TheVariants as task

-- ---- the last event of a run

abbrev pub last_of : List RunEvent → Option RunEvent
last_of [] = None
last_of (event ∷ []) = Some event
last_of (event ∷ next ∷ rest) = last_of (next ∷ rest)

pub last_push : (events : List RunEvent) (event : RunEvent) → last_of (events ++ event ∷ []) ≡ Some event
last_push [] event = refl
last_push (a ∷ []) event = refl
last_push (a ∷ b ∷ rest) event = last_push (b ∷ rest) event

-- The run has come to the store, or, where that is stopped, its last event spares what the task removes.
pub record HasComeBeside {D : Type 0} (task : Task) (store : StoreValue D) (history : Option History) (faults : Faults) (run : Run) : Type 0 where
  pub come : store.stopped ≡ false → HasComeTo run (seen_in store history faults)
  pub spared : store.stopped ≡ true → IfSome (last_of run.events) (SparesTask task)

-- where the task stands in such a run
abbrev pub stands_then : {D : Type 0} → StoreValue D → Option History → Faults → Task → Request → Run → ℕ → List Reply → Type 0
stands_then store history faults task asked run place said = HasComeBeside task store history faults run → StandsTask task store history asked run place said

pub passes_in_run : {D : Type 0} → (task : Task) (store : StoreValue D) (history : Option History) (faults : Faults) (run : Run) (event : RunEvent) → HasComeBeside task store history faults (and_then run event) → PassesInRun task store history faults run event
passes_in_run task store history faults run event comes = record { come = comes.come; spared = λ stopped. subst (λ (o : Option RunEvent). IfSome o (SparesTask task)) (last_push run.events event) (comes.spared stopped) }

-- ---- a script that is served is served by what follows of where its tasks stand

abbrev Follow : {T : Type 0} → (T → Request → Run → ℕ → List Reply → Type 0) → (T → Request → Run → ℕ → List Reply → Type 0) → Run → Type 0
Follow Was Is run = (task : _) (asked : Request) (place : ℕ) (said : List Reply) → Was task asked run place said → Is task asked run place said

stands_as : {T : Type 0} → (Was Is : T → Request → Run → ℕ → List Reply → Type 0) (run : Run) → Follow Was Is run → (o : Option T) (asked : Request) (place : ℕ) (said : List Reply) → LaneStands Was o asked run place said → LaneStands Is o asked run place said
stands_as Was Is run follow None asked place said stands = stands
stands_as Was Is run follow (Some task) asked place said stands = follow task asked place said stands

turn_as : {T : Type 0} → (Was Is : T → Request → Run → ℕ → List Reply → Type 0) (script : Requests) (run : Run) (journal : List JournalStep) (replies : List (Option Reply)) (lane : ℕ) (value : LaneValue T) (queue : List ℕ) → Follow Was Is run
    → IsInTurn Was script run journal replies lane value queue → IsInTurn Is script run journal replies lane value queue
turn_as Was Is script run journal replies lane value [] follow t = t
turn_as Was Is script run journal replies lane value (place ∷ rest) follow t = ((t.0.0, t.0.1, stands_as Was Is run follow value.task t.0.0 place (said_by journal place) t.0.2), t.1)

pub serves_as : {T : Type 0} → (Was Is : T → Request → Run → ℕ → List Reply → Type 0) (start : Lists) (script : Requests) (run : Run) (journal : List JournalStep) (broken : Broken) (replies : List (Option Reply)) (began now : Seen) (lanes : List (LaneValue T)) → Follow Was Is run
    → IsServing Was start script run journal broken replies began now lanes → IsServing Is start script run journal broken replies began now lanes
serves_as Was Is start script run journal broken replies began now lanes follow s = record {
  serves = s.serves;
  follows = s.follows;
  told = s.told;
  given = s.given;
  would = s.would;
  stays_stopped = s.stays_stopped;
  replied_stopped = s.replied_stopped;
  lanes_at = λ k value there. let l = s.lanes_at k value there in record { in_turn = turn_as Was Is script run journal replies (k + 1) value value.queue follow l.in_turn; each = l.each };
}

-- ---- an event of a store that is stopped

pairs_last : {X : Type 0} → (R : X → X → Type 0) (xs : List X) (y : X) → AllPairs R (xs ++ y ∷ []) → All (λ x. R x y) xs
pairs_last R [] y pairs = All-nil (λ x. R x y)
pairs_last R (x ∷ xs) y pairs = All-cons (λ a. R a y) x xs (All-pop (R x) (xs ++ y ∷ []) xs (Some y) refl (pairs_head R x (xs ++ y ∷ []) pairs)).1 (pairs_last R xs y (pairs_tail R x (xs ++ y ∷ []) pairs))

abbrev StopsLater : RunEvent → RunEvent → Type 0
StopsLater a b = a.refused ≡ Some refusal.Stopped → (b.refused ≡ Some refusal.Stopped) ⊎ (b.refused ≡ Some refusal.NoMemory)

-- an event that isn't refused stands behind none that a stopped store refused
none_before : (events : List RunEvent) (event : RunEvent) → event.refused ≡ None → StaysStopped (events ++ event ∷ []) → NoneStopped events
none_before events event unrefused stays =
    All-weaker (λ (a : RunEvent). StopsLater a event) (λ (a : RunEvent). a.refused ≢ Some refusal.Stopped) (λ a later stopped. elim (later stopped) [
      | inl e ↦ (let z : None ≡ Some refusal.Stopped = sym unrefused ∙ e in cc z)
      | inr e ↦ (let z : None ≡ Some refusal.NoMemory = sym unrefused ∙ e in cc z)
    ]) events (pairs_last StopsLater events event stays)

-- an event that stops the store is refused
refused_falling : (how : Did) (q : Request) (run : Run) (lists left : Lists) (event : RunEvent) (answer : Option Reply) (old new : Seen) → Went how q run lists left event answer old new → old.stopped ≡ false → new.stopped ≡ true → event.refused ≡ None → ⊥
refused_falling did.Quiet q run lists left event answer old new w ran stops none = let z : true ≡ false = sym stops ∙ (w.1 ∙ ran) in cc z
refused_falling (did.Step half) q run lists left event answer old new w ran stops none = let z : true ≡ false = sym stops ∙ w.2 in cc z
refused_falling did.Failed q run lists left event answer old new w ran stops none = let z : None ≡ Some refusal.Stopped = sym none ∙ w.0.refused in cc z
refused_falling (did.Broken half) q run lists left event answer old new w ran stops none = let z : None ≡ Some refusal.Stopped = sym none ∙ w.0.refused in cc z

-- so it is of each event in a store that is stopped then
pub refused_stopped : (how : Did) (q : Request) (run : Run) (lists left : Lists) (event : RunEvent) (answer : Option Reply) (old new : Seen) → Went how q run lists left event answer old new → (old.stopped ≡ true → NoneStopped run.events → ⊥) → StaysStopped (run.events ++ event ∷ []) → new.stopped ≡ true → (why : Refusal) × (event.refused ≡ Some why)
refused_stopped how q run lists left event answer old new w stopped_by stays stops = by_refused event.refused refl
  where
    by_old : (b : Bool) → old.stopped ≡ b → event.refused ≡ None → ⊥
    by_old true was none = stopped_by was (none_before run.events event none stays)
    by_old false ran none = refused_falling how q run lists left event answer old new w ran stops none

    by_refused : (o : Option Refusal) → event.refused ≡ o → (why : Refusal) × (event.refused ≡ Some why)
    by_refused (Some why) e = (why, e)
    by_refused None e = absurd (by_old old.stopped refl e)

spares_file : (now : FetchStage) (event : RunEvent) → DidNothing event → SparesFile now event
spares_file (stage.Removing file given) event nothing = (
  ap (λ (e : RunEvent). list_any (λ (p : Pin). p.file == file.0) e.pins) nothing,
  ap (λ (e : RunEvent). is_one_of e.removed file.0) nothing,
)
spares_file now event nothing = tt

-- it did nothing, and spares every file
pub spares_all : (t : Task) (event : RunEvent) → DidNothing event → SparesTask t event
spares_all (task.Fetch t) event nothing = spares_file t.stage event nothing
spares_all other event nothing = tt
