-- Lanes begin to serve a script over a store as it was opened.
use Rattle.std.proofs.Common.{◌≡◌, ◌≤◌, ◌+◌, ℕ, zero, suc, false, List, [], ◌∷◌, map, Option, Some, None, refl, sym, ◌∙◌, ap, subst, arith}
use Rattle.std.specs.Prelude.{All, length, slice_get, option_map}
use Rattle.std.proofs.lemmas.List.Elements.{All-nil}
use Rattle.std.proofs.lemmas.List.Sums.{sum_by-cons}
use Rattle.std.proofs.lemmas.Option.{slice_get-map}
use Rattle.disk_model.specs.Disk.{History, Faults, told_calls}
use Rattle.mdbox_base.specs.declared.ids.Uid.{Uid}
use Rattle.mdbox_base.specs.declared.requests.Request.{Request}
use Rattle.mdbox_base.specs.declared.requests.Request.TheVariants as request
use Rattle.model_lists.specs.Lists.{Lists}
use Rattle.list_machine.specs.Run.{Run, RunEvent, own_events}
use Rattle.journal.specs.Journal.{Requests, no_broken}
use Rattle.journal.specs.Makes.{HasCome}
use Rattle.storage_files.specs.Files.{pins_in}
use Rattle.store_core.specs.Value.{StoreValue}
use Rattle.store_seen.specs.Seeing.{IsAtOpening, seen_of}
use Rattle.store_seen.proofs.SeeingLemmas.{comes_at_first}
use Rattle.task_claims.specs.Claims.{Claims, ClaimsNothing, HasNoTask, Pinned, Thing, total_claims}
use Rattle.task_claims.proofs.OpenedLemmas.{none_claimed}
use Rattle.task_steps.specs.Step.{IsFirmAt, HasComeTo, ShowsSeen}
use Rattle.serving.specs.Accounts.{IsReadyLane, lane_claims}
use Rattle.serving.specs.Lanes.{AreFresh, LaneAt, LaneValue, said_by}
use Rattle.serving.specs.Serving.{HaveLanes, IsServing, unreplied}
use Rattle.serving.proofs.LaneLemmas.{one_some}
use Rattle.serving.proofs.StartLemmas.{serving_start, none_given}
use Rattle.serving.proofs.TakeUpLemmas.{TakesUp, lane_taken_up}
use Rattle.mail_fetch.specs.Task.{seen_in}
use Rattle.lane_tasks.specs.Tasks.{BeginsTask, IsReadyTask, claims_at}
use Rattle.lane_tasks.specs.declared.task.Task.{Task}
use Rattle.lane_tasks.proofs.StandLemmas.{begins_ready, begins_standing, begins_unclaimed}
use Rattle.lanes.specs.Worlds.{BeginsSome}
use Rattle.lanes.specs.Going.{AreFreshRows, AreUndamaged, FindsMessages, IsFreshRow, IsGoing, IsUndamaged, stands_in, WaitsWithTask}
use Rattle.lanes.specs.Rows.{LaneRow, lane_value, lanes_of, queue_in}
use Rattle.lanes.specs.declared.lane.Queued.{Queued}
use Rattle.lanes.proofs.GoingLemmas.{row_cases}

-- ---- the store

-- its run has come to it, also as all tasks see it, since nothing is pinned
seen_come : {D : Type 0} → (run : Run) (store : StoreValue D) (history : Option History) (faults : Faults) → IsAtOpening run store → HasCome run store.map store.drawn (told_calls history) → HasNoTask store → HasComeTo run (seen_in store history faults)
seen_come {D} run store history faults at come none = record {
  come = first.come;
  keeps = λ runs. record {
    due = (first.keeps runs).due;
    pins = λ file. let unpinned : pins_in file store.files.files ≡ 0 = none_claimed store none (Pinned file) in (first.keeps runs).pins file ∙ sym unpinned;
    doomed = (first.keeps runs).doomed;
    instances = (first.keeps runs).instances;
    files = (first.keeps runs).files;
  };
  used = first.used;
  barred = first.barred;
  gave = first.gave;
  gone = first.gone;
  files = first.files;
}
  where
    first : HasComeTo run (seen_of (λ file. 0) store history faults)
    first = comes_at_first run store history faults at come

-- ---- a lane

pub row_of : {X : Type 0} → (f : LaneRow → X) (rows : List LaneRow) (k : ℕ) (value : X) → slice_get (map f rows) k ≡ Some value → (row : LaneRow) × (slice_get rows k ≡ Some row) × (f row ≡ value)
row_of f [] k value there = absurd (let z : None ≡ Some value = there in cc z)
row_of f (row ∷ more) zero value there = (row, refl, one_some (f row) value there)
row_of f (row ∷ more) (suc k) value there = row_of f more k value there

-- A lane of which the request in turn begins claims nothing, and is ready.
pub row_unclaimed : (row : LaneRow) → ((first : Queued) → row.current ≡ Some first → BeginsSome first) → ClaimsNothing (lane_claims claims_at (lane_value row))
row_unclaimed row begins thing =
    row_cases (λ r. ((first : Queued) → r.current ≡ Some first → BeginsSome first) → lane_claims claims_at (lane_value r) thing ≡ 0) (λ waiting begins. refl) (λ first waiting begins. let b = begins first refl in begins_unclaimed b.0 first.task b.1 thing) row begins

pub row_ready : {D : Type 0} → (row : LaneRow) (store : StoreValue D) (history : Option History) → ((first : Queued) → row.current ≡ Some first → BeginsSome first) → IsReadyLane IsReadyTask (lane_value row) store history
row_ready row store history =
    row_cases (λ r. ((first : Queued) → r.current ≡ Some first → BeginsSome first) → IsReadyLane IsReadyTask (lane_value r) store history) (λ waiting begins task has. absurd (let z : None ≡ Some task = has in cc z))
    (λ first waiting begins task has. let b = begins first refl in subst (λ (t : Task). IsReadyTask t store history) (one_some first.task task has) (begins_ready b.0 first.task store history b.1)) row

fresh_begins : (script : Requests) (lane : ℕ) (row : LaneRow) → IsFreshRow script lane row → (first : Queued) → row.current ≡ Some first → BeginsSome first
fresh_begins script lane row fresh first is = let b = fresh.first first is in (b.0, b.2)

-- a lane that hasn't taken up its first task
abbrev untaken : LaneRow → LaneValue Task
untaken row = record { queue = queue_in row; task = None }

lane_begins : {D : Type 0} → (script : Requests) (run : Run) (k : ℕ) (row : LaneRow) (store : StoreValue D) (history : Option History) → IsFreshRow script (k + 1) row → LaneAt (stands_in store history) script run [] (unreplied script) (k + 1) (untaken row)
    → LaneAt (stands_in store history) script run [] (unreplied script) (k + 1) (lane_value row)
lane_begins script run k row store history =
    row_cases (λ r. IsFreshRow script (k + 1) r → LaneAt (stands_in store history) script run [] (unreplied script) (k + 1) (untaken r) → LaneAt (stands_in store history) script run [] (unreplied script) (k + 1) (lane_value r)) (λ waiting fresh at. at)
    (λ first waiting fresh at. lane_taken_up (stands_in store history) script run [] (unreplied script) (k + 1) (untaken (record { current = Some first; waiting = waiting })) first.task refl (first_begins first waiting (fresh.first first refl)) at) row
  where
    first_begins : (first : Queued) (waiting : List Queued) → WaitsWithTask script (k + 1) first → TakesUp (stands_in store history) script run [] (k + 1) (first.place ∷ map (λ (q : Queued). q.place) waiting) first.task
    first_begins first waiting b request asked unbegun =
        let same : b.0 ≡ request = ap (λ (q : ℕ × Request). q.1) (one_some (k + 1, b.0) (k + 1, request) (sym b.1 ∙ asked)) in
        begins_standing request first.task store history run first.place (said_by [] first.place) (subst (λ (q : Request). BeginsTask q first.task) same b.2) unbegun

-- ---- all lanes

serving_begins : {D : Type 0} → (start : Lists) (script : Requests) (run : Run) (rows : List LaneRow) (store : StoreValue D) (history : Option History) (faults : Faults) → run.events ≡ [] → HasComeTo run (seen_in store history faults) → ShowsSeen (seen_in store history faults) start → store.stopped ≡ false → IsFirmAt start (seen_in store history faults) → AreFreshRows script rows
    → IsServing (stands_in store history) start script run [] no_broken (unreplied script) (seen_in store history faults) (seen_in store history faults) (lanes_of rows)
serving_begins {D} start script run rows store history faults empty come shows runs firm fresh = record {
  serves = s.serves;
  follows = s.follows;
  told = s.told;
  given = s.given;
  would = s.would;
  stays_stopped = s.stays_stopped;
  replied_stopped = s.replied_stopped;
  lanes_at = λ k value there. let r = row_of lane_value rows k value there in
      subst (λ (v : LaneValue Task). LaneAt (stands_in store history) script run [] (unreplied script) (k + 1) v) r.2
      (lane_begins script run k r.0 store history (fresh k r.0 r.1) (s.lanes_at k (untaken r.0) (slice_get-map untaken rows k ∙ ap (λ (o : Option LaneRow). option_map untaken o) r.1)));
}
  where
    all_fresh : AreFresh script (map untaken rows)
    all_fresh k value there = let r = row_of untaken rows k value there in sym r.2 ∙ ap (λ (q : List ℕ). record (untaken r.0) { queue = q }) (fresh k r.0 r.1).all

    s : IsServing (stands_in store history) start script run [] no_broken (unreplied script) (seen_in store history faults) (seen_in store history faults) (map untaken rows)
    s = serving_start (stands_in store history) start script run (seen_in store history faults) (map untaken rows) empty come shows runs firm all_fresh

pub none_in_all : {T : Type 0} → (claims : T → Claims) (lanes : List (LaneValue T)) (thing : Thing) → ((k : ℕ) (value : LaneValue T) → slice_get lanes k ≡ Some value → ClaimsNothing (lane_claims claims value)) → 0 ≡ total_claims (map (lane_claims claims) lanes) thing
none_in_all claims [] thing none = refl
none_in_all claims (a ∷ more) thing none =
    let first : lane_claims claims a thing ≡ 0 = none 0 a refl thing in
    let rest = none_in_all claims more thing (λ k value there. none (suc k) value there) in
    let s = sum_by-cons (λ (c : Claims). c thing) (lane_claims claims a) (map (lane_claims claims) more) in
    omega (arith, first, rest, s)

-- where no event was made, none met damage
none_undamaged : (script : Requests) (run : Run) → run.events ≡ [] → AreUndamaged script run (unreplied script)
none_undamaged script run empty = record {
  events = λ place lane name uid at. subst (λ (es : List RunEvent). All IsUndamaged (own_events place (record run { events = es }))) (sym empty) (All-nil IsUndamaged);
  none_told = λ i given has. absurd (none_given script i given has);
}

pub all_begin : {D : Type 0} → (start : Lists) (script : Requests) (run : Run) (rows : List LaneRow) (store : StoreValue D) (history : Option History) (faults : Faults) → IsAtOpening run store → HasCome run store.map store.drawn (told_calls history) → HasNoTask store → store.stopped ≡ false → ShowsSeen (seen_in store history faults) start → IsFirmAt start (seen_in store history faults)
    → AreFreshRows script rows → HaveLanes script (lanes_of rows) → length rows ≤ 64 → ((place lane : ℕ) (name : List ℕ) (uid : Uid) → slice_get script place ≡ Some (lane, request.Fetch name uid) → FindsMessages start script run history history)
    → IsGoing start script run [] no_broken (unreplied script) (seen_in store history faults) store history faults rows
all_begin {D} start script run rows store history faults at come none runs shows firm fresh lanes few finds = record {
  serving = serving_begins start script run rows store history faults at.empty (seen_come run store history faults at come none) shows runs firm fresh;
  lanes = lanes;
  few = few;
  waiting = λ k row there. (fresh k row there).behind;
  fetched = finds;
  undamaged = none_undamaged script run at.empty;
  quiet = λ still unread. refl;
  accounts = λ still. record {
    adds_up = λ thing. none_claimed store none thing ∙ none_in_all claims_at (lanes_of rows) thing unclaimed;
    ready = λ k value there. let r = row_of lane_value rows k value there in subst (λ (v : LaneValue Task). IsReadyLane IsReadyTask v store history) r.2 (row_ready r.0 store history (fresh_begins script (k + 1) r.0 (fresh k r.0 r.1)));
  };
}
  where
    unclaimed : (k : ℕ) (value : LaneValue Task) → slice_get (lanes_of rows) k ≡ Some value → ClaimsNothing (lane_claims claims_at value)
    unclaimed k value there = let r = row_of lane_value rows k value there in subst (λ (v : LaneValue Task). ClaimsNothing (lane_claims claims_at v)) r.2 (row_unclaimed r.0 (fresh_begins script (k + 1) r.0 (fresh k r.0 r.1)))
