-- What a task needs of the run beside: that nobody has taken the storage file in which it finds room, and that the files are safe for
-- the lists by which it answers.
use Rattle.std.specs.Prelude.{◌⊎◌, ◌==◌, cond, filter, length, slice_get}
use Rattle.std.proofs.Common.{◌≡◌, ◌≤◌, ◌<◌, ℕ, Bool, true, false, List, [], ◌∷◌, map, Option, Some, None, refl, sym, ◌∙◌, ap, subst, arith, inl, inr}
use Rattle.std.specs.Option.{IfSome}
use Rattle.std.proofs.lemmas.Bool.{eq-eqb, false_from_ne_true}
use Rattle.std.proofs.lemmas.Option.{slice_get_within}
use Rattle.disk_model.specs.Disk.{History}
use Rattle.mdbox_base.specs.declared.ids.Uid.{Uid}
use Rattle.mdbox_base.specs.declared.replies.Reply.{Reply}
use Rattle.mdbox_base.specs.declared.requests.Request.{Request}
use Rattle.mdbox_base.specs.declared.requests.Request.TheVariants as request
use Rattle.model_lists.specs.Lists.{Lists}
use Rattle.model_store.specs.Settled.{IsSettledFor}
use Rattle.list_machine.specs.Run.{Run, RunEvent, own_events}
use Rattle.journal.specs.Events.{Around}
use Rattle.journal.specs.Found.{is_taken}
use Rattle.journal.specs.Journal.{AreSteps, Broken, JournalStep, Requests, left_by}
use Rattle.journal.specs.JournalExamples.{nothing_around}
use Rattle.journal.specs.Makes.{AreNextEvents}
use Rattle.storage_files.specs.Files.{AreFilesInOrder}
use Rattle.store_core.specs.Running.{IsStore}
use Rattle.store_core.specs.Value.{StoreValue}
use Rattle.task_claims.specs.Claims.{AddsUp}
use Rattle.task_steps.specs.Step.{FindsRoom, Seen}
use Rattle.serving.specs.Accounts.{lane_claims}
use Rattle.serving.specs.Lanes.{LaneValue}
use Rattle.serving.specs.Serving.{HaveLanes, IsServing}
use Rattle.serving.specs.Taken.{IsInUse}
use Rattle.serving.proofs.TakenLemmas.{taken_in_use}
use Rattle.mail_fetch.specs.Clause.{CanFetch, ReadsSafe}
use Rattle.mail_fetch.specs.Stages.{IsAtFetch}
use Rattle.mail_fetch.specs.declared.task.FetchStage.{FetchStage}
use Rattle.mail_fetch.specs.declared.task.FetchStage.TheVariants as stage
use Rattle.mail_fetch.proofs.StepLemmas.{safe_fetched}
use Rattle.purge_task.specs.Clause.{TellsUses}
use Rattle.lane_tasks.specs.Clause.{CanAnswer, IsFreeToTake, TellsRun, around_at}
use Rattle.lane_tasks.specs.Tasks.{StandsTask, claims_at}
use Rattle.lane_tasks.specs.declared.task.Task.{Task}
use Rattle.lane_tasks.specs.declared.task.Task.TheVariants as task
use Rattle.lane_tasks.proofs.RoomLemmas.{found_free, safe_answered}
use Rattle.lane_tasks.proofs.StandLemmas.{task_taken}
use Rattle.lanes.specs.Going.{FindsMessages, stands_in}

-- ---- room

-- a file that may be taken isn't in use
free_unused : {D : Type 0} → (store : StoreValue D) (file : ℕ) → IsFreeToTake file store → IsInUse store file → ⊥
free_unused store file free (inl taken) = let z : true ≡ false = sym taken ∙ free.untaken in cc z
free_unused store file free (inr emptied) = let z : true ≡ false = sym emptied ∙ free.unemptied in cc z

-- what the run calls taken is in use
abbrev pub UsesTaken : {D : Type 0} → StoreValue D → Run → Type 0
UsesTaken store run = (file : ℕ) → 1 ≤ file → is_taken run file ≡ true → IsInUse store file

pub finds_room : {D : Type 0} → (t : Task) (asked : Request) (store : StoreValue D) (history : Option History) (run : Run) → IsStore history store → AreFilesInOrder store.files → UsesTaken store run → FindsRoom (around_at t asked store nothing_around) run
finds_room {D} t asked store history run is ordered uses = by_room (around_at t asked store nothing_around).room refl
  where
    by_room : (o : Option ℕ) → (around_at t asked store nothing_around).room ≡ o → IfSome o (λ file. is_taken run file ≡ false)
    by_room None found = tt
    by_room (Some file) found = let free = found_free t asked store history nothing_around file is ordered refl found in false_from_ne_true (is_taken run file) (λ taken. free_unused store file free (uses file free.some taken))

pub uses_taken : {D : Type 0} → (start : Lists) (script : Requests) (run : Run) (journal : List JournalStep) (broken : Broken) (replies : List (Option Reply)) (began now : Seen) (store : StoreValue D) (history : Option History) (lanes : List (LaneValue Task))
    → IsServing (stands_in store history) start script run journal broken replies began now lanes → HaveLanes script lanes → AddsUp store (map (lane_claims claims_at) lanes) → UsesTaken store run
uses_taken start script run journal broken replies began now store history lanes s have adds file numbered is =
    taken_in_use (stands_in store history) claims_at start script run journal broken replies began now lanes store file s have adds (λ t asked place said stood file numbered took kept. task_taken t store history asked run place said file stood numbered took kept) numbered is

-- ---- files that are read

settled_reads : (lists : Lists) (history : Option History) → IsSettledFor lists history → ReadsSafe lists history
settled_reads lists None settled = settled
settled_reads lists (Some h) settled = record { store = settled.store; entries = settled.entries; by = settled.safe }

-- where no event of the one request of a script was made, none was, and the journal has no step
no_events : (around after : ℕ → Around) (script : Requests) (start : Lists) (run : Run) (journal : List JournalStep) (place : ℕ) → length script ≡ 1 → place < length script → AreNextEvents around after script start run journal → own_events place run ≡ [] → run.events ≡ []
no_events around after script start run journal place one within next none = by_events run.events refl
  where
    by_events : (events : List RunEvent) → run.events ≡ events → run.events ≡ []
    by_events [] e = e
    by_events (first ∷ rest) e =
        let n = next 0 first (ap (λ (es : List RunEvent). slice_get es 0) e) in
        let there = slice_get_within script first.request n.asked n.request_is in
        let own : (first.request == place) ≡ true = eq-eqb first.request place (omega (arith, one, within, there)) in
        let kept : first ∷ filter (λ (x : RunEvent). x.request == place) rest ≡ [] =
        sym (ap (λ (b : Bool). cond b (first ∷ filter (λ (x : RunEvent). x.request == place) rest) (filter (λ (x : RunEvent). x.request == place) rest)) own) ∙ (sym (ap (λ (es : List RunEvent). filter (λ (x : RunEvent). x.request == place) es) e) ∙ none) in
        absurd (cc kept)

no_steps : (run : Run) (script : Requests) (start : Lists) (journal : List JournalStep) → AreSteps run script start journal → run.events ≡ [] → left_by start journal ≡ start
no_steps run script start [] steps none = refl
no_steps run script start (step ∷ journal) steps none = absurd (let k : None ≡ Some steps.0.event = sym (ap (λ (es : List RunEvent). slice_get es step.event) none) ∙ steps.0.event_is in cc k)

-- So before the first event of a fetch the files read as safe for the lists that its script has come to, or the disk is settled for them.
pub files_found : (around after : ℕ → Around) (script : Requests) (start : Lists) (run : Run) (journal : List JournalStep) (began history : Option History) (place lane : ℕ) (asked : Request) → FindsMessages start script run began history → slice_get script place ≡ Some (lane, asked) → AreNextEvents around after script start run journal → AreSteps run script start journal → (IsSettledFor start began → IsSettledFor (left_by start journal) history)
    → IsSettledFor (left_by start journal) history ⊎ (own_events place run ≡ [] → ReadsSafe (left_by start journal) history)
files_found around after script start run journal began history place lane asked (inl settled) there next steps stays = inl (stays settled)
files_found around after script start run journal began history place lane asked (inr first) there next steps stays = inr (λ none.
    let empty = no_events around after script start run journal place first.0 (slice_get_within script place (lane, asked) there) next none in
    subst (λ (ls : Lists). ReadsSafe ls history) (sym (no_steps run script start journal steps empty)) (first.1 empty))

answers_at : {D : Type 0} → (now : FetchStage) (name : List ℕ) (uid : Uid) (lists : Lists) (store : StoreValue D) (history : Option History) (run : Run) (place : ℕ) (said : List Reply) → IsStore history store → store.stopped ≡ false → IsAtFetch now store.stopped history run place said → (own_events place run ≡ [] → ReadsSafe lists history) → CanFetch now name uid lists store.map history
answers_at stage.First name uid lists store history run place said opened runs at safe = safe_fetched stage.First name uid store history lists opened runs (safe at.0)
answers_at now name uid lists store history run place said opened runs at safe = tt

-- Only a fetch answers by the files of messages.
pub can_answer : {D : Type 0} → (t : Task) (asked : Request) (lists : Lists) (store : StoreValue D) (history : Option History) (run : Run) (place : ℕ) (said : List Reply) → IsStore history store → store.stopped ≡ false → StandsTask t store history asked run place said
    → ((name : List ℕ) (uid : Uid) → asked ≡ request.Fetch name uid → IsSettledFor lists history ⊎ (own_events place run ≡ [] → ReadsSafe lists history)) → CanAnswer t lists store history
can_answer (task.Fetch t) asked lists store history run place said opened runs stands finds = elim (finds t.name t.uid stands.is_of) [
  | inl settled ↦ safe_answered (task.Fetch t) lists store history opened runs (settled_reads lists history settled)
  | inr safe ↦ answers_at t.stage t.name t.uid lists store history run place said opened runs stands.at safe
]
can_answer t asked lists store history run place said opened runs stands finds = tt

-- ---- who uses files and instances

-- Only a purge goes by that.
pub tells_run : {D : Type 0} → (t : Task) (run : Run) (store : StoreValue D) → TellsUses run store → TellsRun t run store
tells_run (task.Purge t) run store tells = tells
tells_run t run store tells = tt
