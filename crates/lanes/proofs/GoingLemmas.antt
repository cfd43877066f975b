-- A script that lanes of tasks serve goes on with an event of any lane.
use Rattle.std.proofs.Common.{◌≡◌, ◌<◌, ◌≤◌, ◌+◌, ℕ, zero, suc, true, false, List, [], ◌∷◌, map, slice_set, All, Option, Some, None, refl, sym, ◌∙◌, ap, subst, arith, inl, inr}
use Rattle.std.specs.Option.{IfSome}
use Rattle.std.specs.Prelude.{◌≢◌, ◌⊎◌, ◌++◌, is_some, length, slice_get, option_map}
use Rattle.std.proofs.lemmas.Option.{slice_get-map}
use Rattle.std.proofs.lemmas.List.{length-set}
use Rattle.std.proofs.lemmas.List.Elements.{All-cons, All-head, All-tail, All-nil, All-pop, All-weaker}
use Rattle.disk_model.specs.Disk.{History, Faults, told_calls}
use Rattle.disk_model.specs.FaultCounts.{NoFault}
use Rattle.mdbox_base.specs.declared.progress.Did.{Did}
use Rattle.mdbox_base.specs.declared.progress.Did.TheVariants as did
use Rattle.mdbox_base.specs.declared.progress.Progress.{Progress}
use Rattle.mdbox_base.specs.declared.progress.Progress.TheVariants as progress
use Rattle.mdbox_base.specs.declared.replies.Refusal.TheVariants as refusal
use Rattle.mdbox_base.specs.declared.replies.Reply.{Reply}
use Rattle.mdbox_base.specs.declared.requests.Request.{Request}
use Rattle.mdbox_base.specs.declared.script.Half.{Half}
use Rattle.model_lists.specs.Lists.{Lists}
use Rattle.list_machine.specs.Run.{Run, RunEvent, and_then}
use Rattle.journal.specs.Events.{Around}
use Rattle.journal.specs.Journal.{Broken, JournalStep, Requests, half_of, left_by}
use Rattle.journal.specs.JournalExamples.{nothing_around}
use Rattle.journal.specs.Makes.{steps_made}
use Rattle.serving.specs.Accounts.{IsReadyLane, LanesAccount, lane_claims}
use Rattle.serving.specs.Lanes.{IsInTurn, LaneStands, LaneValue, lane_behind, replies_behind, said_by}
use Rattle.serving.specs.Serving.{IsServing}
use Rattle.serving.specs.Standing.{OthersStandOn}
use Rattle.serving.proofs.AccountLemmas.{accounted_on, lane_beside, task_beside}
use Rattle.serving.proofs.LaneLemmas.{get_set_other, get_set_same, journal_behind, nat_cases, one_some}
use Rattle.serving.proofs.ServingLemmas.{lane_goes_on}
use Rattle.serving.proofs.TakeUpLemmas.{TakesUp, serving_taken_up}
use Rattle.store_core.specs.Value.{StoreValue}
use Rattle.task_claims.specs.Claims.{Claims, ClaimsNothing, MovesClaims, amount_in}
use Rattle.task_claims.specs.Leaving.{LeavesOthers}
use Rattle.task_steps.specs.Serves.{BreaksBy, IsTurn}
use Rattle.task_steps.specs.Step.{DidEvent, FaultsGrow, FindsRoom, IsFault, Seen, Went, and_told, ended_by}
use Rattle.mail_fetch.specs.Task.{seen_in}
use Rattle.lane_tasks.proofs.StepLemmas.{ran_before}
use Rattle.lane_tasks.specs.Clause.{CanAnswer, FindsAround, PassesBy, SparesTask, TellsRun, around_at}
use Rattle.lane_tasks.specs.Tasks.{BeginsTask, IsReadyTask, StandsTask, claims_at, did_of}
use Rattle.lane_tasks.specs.declared.task.Task.{Task}
use Rattle.lane_tasks.proofs.StandLemmas.{begins_ready, begins_standing, begins_unclaimed, task_stable, task_stands}
use Rattle.lanes.proofs.KeptLemmas.{map_set}
use Rattle.lanes.specs.Going.{AddsEvent, AreWaiting, IsGoing, IsStepOf, WaitsWithTask, halves_told, stands_in}
use Rattle.lanes.specs.Worlds.{BeginsSome}
use Rattle.lanes.specs.Rows.{LaneRow, RowGoesOn, lane_value, lanes_of, next_in_turn, queue_in, after_event}
use Rattle.lanes.specs.declared.lane.LaneEvent.{LaneEvent}
use Rattle.lanes.specs.declared.lane.Queued.{Queued}
use Rattle.lanes.proofs.DamageLemmas.{not_empty, stands_undamaged, undamaged_on}
use Rattle.lanes.proofs.FindingLemmas.{can_answer, files_found, finds_room, tells_run, uses_taken}
use Rattle.lanes.proofs.SparedLemmas.{HasComeBeside, last_push, passes_in_run, refused_stopped, serves_as, spares_all, stands_then}
use Rattle.lanes.proofs.TellsUsesLemmas.{tells_uses}

-- ---- rows

-- a lane has no request in turn, or one
pub row_cases : (P : LaneRow → Type 0) → ((waiting : List Queued) → P (record { current = None; waiting = waiting })) → ((first : Queued) (waiting : List Queued) → P (record { current = Some first; waiting = waiting })) → (row : LaneRow) → P row
row_cases P idle busy row = by_current row.current
  where
    by_current : (current : Option Queued) → P (record { current = current; waiting = row.waiting })
    by_current None = idle row.waiting
    by_current (Some first) = busy first row.waiting

pub value_at : (rows : List LaneRow) (k : ℕ) (row : LaneRow) → slice_get rows k ≡ Some row → slice_get (lanes_of rows) k ≡ Some (lane_value row)
value_at rows k row there = slice_get-map lane_value rows k ∙ ap (λ (o : Option LaneRow). option_map lane_value o) there

pub rows_set : (rows : List LaneRow) (k : ℕ) (now : LaneRow) → lanes_of (slice_set rows k now) ≡ slice_set (lanes_of rows) k (lane_value now)
rows_set = map_set lane_value

pub set_twice : {X : Type 0} → (xs : List X) (k : ℕ) (x y : X) → slice_set (slice_set xs k x) k y ≡ slice_set xs k y
set_twice [] k x y = refl
set_twice (a ∷ more) zero x y = refl
set_twice (a ∷ more) (suc k) x y = ap (λ (vs : List _). a ∷ vs) (set_twice more k x y)

-- ---- claims

moved_none : {D : Type 0} → (mine next : Claims) (now : Claims) (old new : StoreValue D) → ClaimsNothing next → ClaimsNothing now → MovesClaims mine next old new → MovesClaims mine now old new
moved_none mine next now old new none nothing moves thing = sums (amount_in thing new + mine thing) (amount_in thing old) (next thing) (now thing) (moves thing) (none thing) (nothing thing)
  where
    sums : (all old next now : ℕ) → all ≡ old + next → next ≡ 0 → now ≡ 0 → all ≡ old + now
    sums all old next now e n z = omega (arith, e, n, z)

-- what follows the first request begins, and claims nothing
next_unclaimed : (waiting : List Queued) → All BeginsSome waiting → ClaimsNothing (lane_claims claims_at (lane_value (next_in_turn waiting)))
next_unclaimed [] are = λ thing. refl
next_unclaimed (next ∷ rest) are = let b = All-head BeginsSome next rest are in begins_unclaimed b.0 next.task b.1

next_ready : {D : Type 0} → (waiting : List Queued) (store : StoreValue D) (history : Option History) → All BeginsSome waiting → IsReadyLane IsReadyTask (lane_value (next_in_turn waiting)) store history
next_ready [] store history are task has = absurd (let z : None ≡ Some task = has in cc z)
next_ready (next ∷ rest) store history are task has = let b = All-head BeginsSome next rest are in subst (λ (t : Task). IsReadyTask t store history) (one_some next.task task has) (begins_ready b.0 next.task store history b.1)

-- requests that wait in a script begin
pub begin_some : (script : Requests) (lane : ℕ) (waiting : List Queued) → AreWaiting script lane waiting → All BeginsSome waiting
begin_some script lane = All-weaker (WaitsWithTask script lane) BeginsSome (λ queued waits. (waits.0, waits.2))

pub next_waiting : (script : Requests) (lane : ℕ) (waiting : List Queued) → AreWaiting script lane waiting → AreWaiting script lane (next_in_turn waiting).waiting
next_waiting script lane [] are = All-nil (WaitsWithTask script lane)
next_waiting script lane (next ∷ rest) are = All-tail (WaitsWithTask script lane) next rest are

-- ---- the request in turn

pub queue_is : (row : LaneRow) (first : Queued) → row.current ≡ Some first → queue_in row ≡ first.place ∷ map (λ (q : Queued). q.place) row.waiting
queue_is row first was = ap (λ (o : Option Queued). queue_in (record row { current = o })) was

task_is : (row : LaneRow) (first : Queued) → row.current ≡ Some first → option_map (λ (q : Queued). q.task) row.current ≡ Some first.task
task_is row first was = ap (option_map (λ (q : Queued). q.task)) was

pub claims_are : (row : LaneRow) (first : Queued) → row.current ≡ Some first → lane_claims claims_at (lane_value row) ≡ claims_at first.task
claims_are row first was = ap (λ (o : Option Queued). lane_claims claims_at (lane_value (record row { current = o }))) was

pub in_turn : {D : Type 0} → (start : Lists) (script : Requests) (run : Run) (journal : List JournalStep) (broken : Broken) (replies : List (Option Reply)) (began now : Seen) (rows : List LaneRow) (k : ℕ) (row : LaneRow) (first : Queued) (store : StoreValue D) (history : Option History) → slice_get rows k ≡ Some row → row.current ≡ Some first
    → IsServing (stands_in store history) start script run journal broken replies began now (lanes_of rows)
    → (request : Request) × IsTurn script journal replies (k + 1) first.place request × StandsTask first.task store history request run first.place (said_by journal first.place)
in_turn start script run journal broken replies began now rows k row first store history there was s =
    let l = s.lanes_at k (lane_value row) (value_at rows k row there) in
    let t = subst (λ (ps : List ℕ). IsInTurn (stands_in store history) script run journal replies (k + 1) (lane_value row) ps) (queue_is row first was) l.in_turn in
    (t.0.0, t.0.1, subst (λ (o : Option Task). LaneStands (stands_in store history) o t.0.0 run first.place (said_by journal first.place)) (task_is row first was) t.0.2)

-- ---- other lanes

others_stand : {D : Type 0} → (rows : List LaneRow) (k : ℕ) (row : LaneRow) (first : Queued) (next : Task) (old new : StoreValue D) (before after : Option History) (faults : Faults) → slice_get rows k ≡ Some row → row.current ≡ Some first → (new.stopped ≡ false → old.stopped ≡ false)
    → (new.stopped ≡ false → MovesClaims (claims_at first.task) (claims_at next) old new) → (new.stopped ≡ false → LeavesOthers (claims_at first.task) old new before after) → (old.stopped ≡ false → LanesAccount claims_at IsReadyTask old before (lanes_of rows))
    → OthersStandOn (stands_in old before) (stands_then new after faults) (lanes_of rows) k
others_stand rows k row first next old new before after faults there was ran moves leaves accounts j other apart is t asked has run place said event differ gives stood = λ comes. task_stands t old new before after faults asked run place said event passes (passes_in_run t new after faults run event comes) differ gives stood
  where
    mine : claims_at first.task ≡ lane_claims claims_at (lane_value row)
    mine = sym (claims_are row first was)

    passes : PassesBy t old new before after
    passes runs = (
      ran runs,
      (accounts (ran runs)).ready j other is t has,
      task_beside claims_at other t old new before after has
          (lane_beside claims_at (lanes_of rows) k j (lane_value row) other (claims_at next) old new before after (accounts (ran runs)).adds_up (value_at rows k row there) is apart
          (subst (λ (c : Claims). MovesClaims c (claims_at next) old new) mine (moves runs)) (subst (λ (c : Claims). LeavesOthers c old new before after) mine (leaves runs))),
    )

-- ---- the lane

-- its request goes on
value_more : (row : LaneRow) (first : Queued) (next : Task) → row.current ≡ Some first → lane_behind None next (lane_value row) ≡ lane_value (after_event None (record first { task = next }) row.waiting)
value_more row first next was = ap (λ (queue : List ℕ). record (lane_value (after_event None (record first { task = next }) row.waiting)) { queue = queue }) (queue_is row first was)

-- it is answered, and no task is taken up yet
value_done : (row : LaneRow) (first : Queued) (next : Task) (given : Reply) → row.current ≡ Some first → lane_behind (Some given) next (lane_value row) ≡ record { queue = map (λ (q : Queued). q.place) row.waiting; task = None }
value_done row first next given was = ap (λ (o : Option Queued). lane_behind (Some given) next (lane_value (record row { current = o }))) was

takes_up : {D : Type 0} → (start : Lists) (script : Requests) (run : Run) (journal : List JournalStep) (broken : Broken) (replies : List (Option Reply)) (began now : Seen) (lanes : List (LaneValue Task)) (k : ℕ) (was : LaneValue Task) (waiting : List Queued) (store : StoreValue D) (history : Option History)
    → slice_get lanes k ≡ Some was → AreWaiting script (k + 1) waiting → IsServing (stands_in store history) start script run journal broken replies began now (slice_set lanes k (record { queue = map (λ (q : Queued). q.place) waiting; task = None }))
    → IsServing (stands_in store history) start script run journal broken replies began now (slice_set lanes k (lane_value (next_in_turn waiting)))
takes_up start script run journal broken replies began now lanes k was [] store history there are s = s
takes_up start script run journal broken replies began now lanes k was (next ∷ rest) store history there are s =
    subst (λ (vs : List (LaneValue Task)). IsServing (stands_in store history) start script run journal broken replies began now vs) (set_twice lanes k untaken (record untaken { task = Some next.task }))
    (serving_taken_up (stands_in store history) start script run journal broken replies began now (slice_set lanes k untaken) k untaken next.task (get_set_same lanes k untaken was there) refl begins s)
  where
    untaken : LaneValue Task
    untaken = record { queue = next.place ∷ map (λ (q : Queued). q.place) rest; task = None }

    begins : TakesUp (stands_in store history) script run journal (k + 1) untaken.queue next.task
    begins request asked unbegun =
        let b = All-head (WaitsWithTask script (k + 1)) next rest are in
        let same : b.0 ≡ request = ap (λ (q : ℕ × Request). q.1) (one_some (k + 1, b.0) (k + 1, request) (sym b.1 ∙ asked)) in
        begins_standing request next.task store history run next.place (said_by journal next.place) (subst (λ (q : Request). BeginsTask q next.task) same b.2) unbegun

serves_row : {D : Type 0} → (start : Lists) (script : Requests) (run : Run) (journal : List JournalStep) (broken : Broken) (replies : List (Option Reply)) (began now : Seen) (rows : List LaneRow) (k : ℕ) (row : LaneRow) (first : Queued) (next : Task) (store : StoreValue D) (history : Option History) (ended : Option Reply)
    → slice_get rows k ≡ Some row → row.current ≡ Some first → AreWaiting script (k + 1) row.waiting → IsServing (stands_in store history) start script run journal broken replies began now (slice_set (lanes_of rows) k (lane_behind ended next (lane_value row)))
    → IsServing (stands_in store history) start script run journal broken replies began now (lanes_of (slice_set rows k (after_event ended (record first { task = next }) row.waiting)))
serves_row start script run journal broken replies began now rows k row first next store history None there was are s =
    subst (λ (vs : List (LaneValue Task)). IsServing (stands_in store history) start script run journal broken replies began now vs) (ap (slice_set (lanes_of rows) k) (value_more row first next was) ∙ sym (rows_set rows k (after_event None (record first { task = next }) row.waiting))) s
serves_row start script run journal broken replies began now rows k row first next store history (Some given) there was are s =
    subst (λ (vs : List (LaneValue Task)). IsServing (stands_in store history) start script run journal broken replies began now vs) (sym (rows_set rows k (next_in_turn row.waiting)))
    (takes_up start script run journal broken replies began now (lanes_of rows) k (lane_value row) row.waiting store history (value_at rows k row there) are
    (subst (λ (v : LaneValue Task). IsServing (stands_in store history) start script run journal broken replies began now (slice_set (lanes_of rows) k v)) (value_done row first next given was) s))

-- ---- all lanes

pub as_many : (rows : List LaneRow) (k : ℕ) (now : LaneRow) → length (lanes_of (slice_set rows k now)) ≡ length (lanes_of rows)
as_many rows k now = ap length (rows_set rows k now) ∙ length-set (lanes_of rows) k (lane_value now)

waiting_behind : (script : Requests) (lane : ℕ) (ended : Option Reply) (first : Queued) (waiting : List Queued) → AreWaiting script lane waiting → AreWaiting script lane (after_event ended first waiting).waiting
waiting_behind script lane None first waiting are = are
waiting_behind script lane (Some given) first waiting are = next_waiting script lane waiting are

pub all_waiting : (script : Requests) (rows : List LaneRow) (k : ℕ) (row now : LaneRow) → slice_get rows k ≡ Some row → AreWaiting script (k + 1) now.waiting → ((j : ℕ) (other : LaneRow) → slice_get rows j ≡ Some other → AreWaiting script (j + 1) other.waiting)
    → (j : ℕ) (other : LaneRow) → slice_get (slice_set rows k now) j ≡ Some other → AreWaiting script (j + 1) other.waiting
all_waiting script rows k row now there own all j other is = elim (nat_cases k j) [
  | inl e ↦
      let same : now ≡ other = one_some now other (sym (get_set_same rows k now row there) ∙ (ap (λ (n : ℕ). slice_get (slice_set rows k now) n) e ∙ is)) in
      subst (λ (n : ℕ). AreWaiting script (n + 1) other.waiting) e (subst (λ (r : LaneRow). AreWaiting script (k + 1) r.waiting) same own)
  | inr apart ↦ all j other (sym (get_set_other rows k j now apart) ∙ is)
]

-- ---- the store

moves_row : {D : Type 0} → (ended : Option Reply) (first : Queued) (next : Task) (waiting : List Queued) (old new : StoreValue D) → All BeginsSome waiting → (ended ≢ None → ClaimsNothing (claims_at next)) → MovesClaims (claims_at first.task) (claims_at next) old new
    → MovesClaims (claims_at first.task) (lane_claims claims_at (lane_value (after_event ended (record first { task = next }) waiting))) old new
moves_row None first next waiting old new are nothing moves = moves
moves_row (Some given) first next waiting old new are nothing moves =
    moved_none (claims_at first.task) (claims_at next) (lane_claims claims_at (lane_value (next_in_turn waiting))) old new (nothing (λ e. absurd (let z : Some given ≡ None = e in cc z))) (next_unclaimed waiting are) moves

ready_row : {D : Type 0} → (ended : Option Reply) (first : Queued) (next : Task) (waiting : List Queued) (store : StoreValue D) (history : Option History) → All BeginsSome waiting → (ended ≡ None → IsReadyTask next store history)
    → IsReadyLane IsReadyTask (lane_value (after_event ended (record first { task = next }) waiting)) store history
ready_row None first next waiting store history are ready = λ t has. subst (λ (t : Task). IsReadyTask t store history) (one_some next t has) (ready refl)
ready_row (Some given) first next waiting store history are ready = next_ready waiting store history are

pub more_by : (p : Progress) → ended_by p ≡ None → p ≡ progress.More
more_by progress.More none = refl
more_by (progress.Done given) none = absurd (let z : Some given ≡ None = none in cc z)

pub done_by : (p : Progress) → ended_by p ≢ None → (given : Reply) × (p ≡ progress.Done given)
done_by progress.More some = absurd (some refl)
done_by (progress.Done given) some = (given, refl)

pub accounts_row : {D : Type 0} → (rows : List LaneRow) (k : ℕ) (row now : LaneRow) (event : LaneEvent) (old new : StoreValue D) (before after : Option History) (first second : Faults) → slice_get rows k ≡ Some row → All BeginsSome row.waiting → new.stopped ≡ false
    → (g : RowGoesOn row now event old new before after first second) → LanesAccount claims_at IsReadyTask old before (lanes_of rows)
    → LanesAccount claims_at IsReadyTask new after (lanes_of (slice_set rows k (after_event (ended_by event.ended) (record g.queued { task = g.next }) row.waiting)))
accounts_row {D} rows k row now event old new before after first second there are runs g all =
    subst (λ (vs : List (LaneValue Task)). LanesAccount claims_at IsReadyTask new after vs) (sym (rows_set rows k then))
    (record {
      adds_up = (accounted_on claims_at (λ t store history. Unit {0}) (λ t old new before after beside ready. tt) (lanes_of rows) k (lane_value row) (lane_value then) old new before after (value_at rows k row there) moves leaves (λ t has. tt)
          (record { adds_up = all.adds_up; ready = λ j other is t has. tt })).adds_up;
      ready = λ j other is. by_lane j other is (nat_cases k j);
    })
  where
    then : LaneRow
    then = after_event (ended_by event.ended) (record g.queued { task = g.next }) row.waiting

    mine : claims_at g.queued.task ≡ lane_claims claims_at (lane_value row)
    mine = sym (claims_are row g.queued g.was)

    moves : MovesClaims (lane_claims claims_at (lane_value row)) (lane_claims claims_at (lane_value then)) old new
    moves = subst (λ (c : Claims). MovesClaims c (lane_claims claims_at (lane_value then)) old new) mine
        (moves_row (ended_by event.ended) g.queued g.next row.waiting old new are (λ some. let d = done_by event.ended some in g.goes.unclaimed d.0 d.1 runs) (g.goes.claims runs))

    leaves : LeavesOthers (lane_claims claims_at (lane_value row)) old new before after
    leaves = subst (λ (c : Claims). LeavesOthers c old new before after) mine (g.goes.leaves runs)

    by_lane : (j : ℕ) (other : LaneValue Task) → slice_get (slice_set (lanes_of rows) k (lane_value then)) j ≡ Some other → (k ≡ j) ⊎ (k ≢ j) → IsReadyLane IsReadyTask other new after
    by_lane j other is (inl e) =
        subst (λ (v : LaneValue Task). IsReadyLane IsReadyTask v new after) (one_some (lane_value then) other (sym (get_set_same (lanes_of rows) k (lane_value then) (lane_value row) (value_at rows k row there)) ∙ (ap (λ (n : ℕ). slice_get (slice_set (lanes_of rows) k (lane_value then)) n) e ∙ is)))
        (ready_row (ended_by event.ended) g.queued g.next row.waiting new after are (λ more. g.goes.ready (more_by event.ended more) runs))
    by_lane j other is (inr apart) =
        let was = sym (get_set_other (lanes_of rows) k j (lane_value then) apart) ∙ is in
        λ t has. task_stable t old new before after g.goes.store g.goes.store_then g.goes.ordered_then
        (task_beside claims_at other t old new before after has (lane_beside claims_at (lanes_of rows) k j (lane_value row) other (lane_claims claims_at (lane_value then)) old new before after all.adds_up (value_at rows k row there) was apart moves leaves)) (all.ready j other was t has)

-- ---- an event

-- an event that answers nothing has no entry, and one that answers has one of its half
none_made : (run : Run) (request : Request) (event : RunEvent) (answer : Option Reply) (left : Lists) → answer ≡ None → map (λ (s : JournalStep). s.half) (steps_made run request event answer left) ≡ []
none_made run request event answer left none = ap (λ (o : Option Reply). map (λ (s : JournalStep). s.half) (steps_made run request event o left)) none

one_made : (run : Run) (request : Request) (event : RunEvent) (answer : Option Reply) (left : Lists) (half : Half) → is_some answer ≡ true → half_of request event.part ≡ half → map (λ (s : JournalStep). s.half) (steps_made run request event answer left) ≡ half ∷ []
one_made run request event None left half some is = absurd (let z : false ≡ true = some in cc z)
one_made run request event (Some given) left half some is = ap (λ (h : Half). h ∷ []) is

halves_made : (how : Did) (request : Request) (run : Run) (lists left : Lists) (event : RunEvent) (answer : Option Reply) (old new : Seen) → Went how request run lists left event answer old new → map (λ (s : JournalStep). s.half) (steps_made run request event answer left) ≡ halves_told how
halves_made did.Quiet request run lists left event answer old new w = none_made run request event answer left w.0
halves_made (did.Step half) request run lists left event answer old new w = one_made run request event answer left half w.0 w.1
halves_made did.Failed request run lists left event answer old new w = none_made run request event answer left w.0.unanswered
halves_made (did.Broken half) request run lists left event answer old new w = none_made run request event answer left w.0.unanswered

-- an event that was refused otherwise than by a read fault
abbrev unread_event : RunEvent → Type 0
unread_event event = event.refused ≢ Some refusal.ReadFault

-- a store in which an append fails ran before
broken_ran : (half : Half) (request : Request) (run : Run) (lists left : Lists) (event : RunEvent) (answer : Option Reply) (old new : Seen) (how : Did) → how ≡ did.Broken half → Went how request run lists left event answer old new → old.stopped ≡ false
broken_ran half request run lists left event answer old new how is w = (subst (λ (h : Did). Went h request run lists left event answer old new) is w).0.ran

-- in an event that leaves the store running no change failed
unfaulted : (request : Request) (run : Run) (lists left : Lists) (event : RunEvent) (answer : Option Reply) (old new : Seen) (how : Did) → Went how request run lists left event answer old new → new.stopped ≡ false → IsFault how → ⊥
unfaulted request run lists left event answer old new did.Quiet w runs fault = fault
unfaulted request run lists left event answer old new (did.Step half) w runs fault = fault
unfaulted request run lists left event answer old new did.Failed w runs fault = let z : true ≡ false = sym w.0.stopped ∙ runs in cc z
unfaulted request run lists left event answer old new (did.Broken half) w runs fault = let z : true ≡ false = sym w.0.stopped ∙ runs in cc z

made_of : (lane place : ℕ) (run : Run) (request : Request) (event : RunEvent) (answer : Option Reply) (left : Lists) → event.lane ≡ lane → event.request ≡ place → All (IsStepOf lane place run) (steps_made run request event answer left)
made_of lane place run request event None left on at = All-nil (IsStepOf lane place run)
made_of lane place run request event (Some answer) left on at =
    All-cons (IsStepOf lane place run) (record { lane = event.lane; request = event.request; half = half_of request event.part; event = length run.events; answer = answer; left = left }) [] (record { lane_is = on; request_is = at; event_is = refl }) (All-nil (IsStepOf lane place run))

pub going_on : {D : Type 0} → (start : Lists) (script : Requests) (run : Run) (journal : List JournalStep) (broken : Broken) (replies : List (Option Reply)) (began : Seen) (rows : List LaneRow) (k : ℕ) (row now : LaneRow) (event : LaneEvent) (old new : StoreValue D) (before after : Option History) (first second : Faults) → slice_get rows k ≡ Some row
    → RowGoesOn row now event old new before after first second → IsGoing start script run journal broken replies began old before first rows
    → (added : RunEvent) × (steps : List JournalStep) × (failed : Broken) × AddsEvent (k + 1) event run old.map before after first second added steps broken failed × IsGoing start script (and_then run added) (journal ++ steps) failed (replies_behind (ended_by event.ended) event.place replies) began new after second (slice_set rows k now)
going_on {D} start script run journal broken replies began rows k row now event old new before after first second there g s = (
  d.0.makes.event,
  steps_made run turn.0 d.0.makes.event d.0.makes.answer d.0.left,
  goes.0,
  record {
    lane_is = d.0.makes.lane_is;
    request_is = d.0.makes.request_is ∙ sym g.goes.place_is;
    reply_is = d.0.makes.ended_is;
    moment_is = d.0.makes.moment_is;
    halves_are = halves_made (did_of g.next) turn.0 run (left_by start journal) d.0.left d.0.makes.event d.0.makes.answer (seen_in old before first) (seen_in new after second) d.0.went ∙ ap halves_told (sym g.goes.did_is);
    steps_are = made_of (k + 1) event.place run turn.0 d.0.makes.event d.0.makes.answer d.0.left d.0.makes.lane_is (d.0.makes.request_is ∙ sym g.goes.place_is);
    breaks = subst (λ (how : Did). BreaksBy how run d.0.makes.event (told_calls before) broken goes.0) (sym g.goes.did_is) goes.2;
    grows = d.0.grows;
    mail = d.0.mail;
    faults = subst (λ (how : Did). FaultsGrow (IsFault how) first second) (sym g.goes.did_is) d.0.ends.faults;
    reads = d.0.ends.reads;
    unfailed = λ unread none. d.0.ends.unfailed unread (subst (λ (how : Did). IsFault how → ⊥) g.goes.did_is none);
    once = λ half is. s.serving.serves.unbroken (broken_ran half turn.0 run (left_by start journal) d.0.left d.0.makes.event d.0.makes.answer (seen_in old before first) (seen_in new after second) (did_of g.next) (sym g.goes.did_is ∙ is) d.0.went);
  },
  subst (λ (r : LaneRow). IsGoing start script then_run then_journal goes.0 (replies_behind (ended_by event.ended) event.place replies) began new after second (slice_set rows k r)) (sym g.now_is)
      (subst (λ (n : ℕ). IsGoing start script then_run then_journal goes.0 (replies_behind (ended_by event.ended) n replies) began new after second (slice_set rows k then)) (sym g.goes.place_is) (record {
        serving = serves_row start script then_run then_journal goes.0 (replies_behind (ended_by event.ended) g.queued.place replies) began (seen_in new after second) rows k row g.queued g.next new after (ended_by event.ended) there g.was are goes.1;
        few = subst (λ (n : ℕ). n ≤ 64) (sym (length-set rows k then)) s.few;
        lanes = subst (λ (n : ℕ). All (λ (asked : ℕ × Request). (0 < asked.0) × (asked.0 ≤ n)) script) (sym (as_many rows k then)) s.lanes;
        waiting = all_waiting script rows k row then there (waiting_behind script (k + 1) (ended_by event.ended) (record g.queued { task = g.next }) row.waiting are) s.waiting;
        accounts = λ runs. accounts_row rows k row now event old new before after first second there (begin_some script (k + 1) row.waiting are) runs g (s.accounts (ran runs));
        fetched = λ place lane name uid at. elim (s.fetched place lane name uid at) [ inl settled ↦ inl settled | inr first ↦ inr (first.0, λ none. absurd (not_empty run.events d.0.makes.event none)) ];
        undamaged = undamaged_on found nothing_around script run replies (k + 1) g.queued.place turn.0 (left_by start journal) d.0.makes.event (ended_by event.ended) (and_told (said_by journal g.queued.place) d.0.makes.answer) turn.1.asked turn.1.unanswered d.0.makes.request_is
            d.0.makes.ended_is d.0.makes.is_event d.0.ends.replied (λ more name uid fetch. stands_undamaged g.next new after name uid then_run g.queued.place (and_told (said_by journal g.queued.place) d.0.makes.answer)
            (subst (λ (q : Request). StandsTask g.next new after q then_run g.queued.place (and_told (said_by journal g.queued.place) d.0.makes.answer)) fetch (d.1 more))) s.undamaged;
        quiet = λ runs unread. quiet_then ran d.0.ends.unfailed (unfaulted turn.0 run (left_by start journal) d.0.left d.0.makes.event d.0.makes.answer (seen_in old before first) (seen_in new after second) (did_of g.next) d.0.went) runs unread;
      })),
)
  where
    then : LaneRow
    then = after_event (ended_by event.ended) (record g.queued { task = g.next }) row.waiting

    are : AreWaiting script (k + 1) row.waiting
    are = s.waiting k row there

    turn : (request : Request) × IsTurn script journal replies (k + 1) g.queued.place request × StandsTask g.queued.task old before request run g.queued.place (said_by journal g.queued.place)
    turn = in_turn start script run journal broken replies began (seen_in old before first) rows k row g.queued old before there g.was s.serving

    finds : old.stopped ≡ false → FindsRoom (around_at g.queued.task turn.0 old nothing_around) run
    finds runs = finds_room g.queued.task turn.0 old before run g.goes.store g.goes.ordered (uses_taken start script run journal broken replies began (seen_in old before first) old before (lanes_of rows) s.serving s.lanes (s.accounts runs).adds_up)

    answers : old.stopped ≡ false → CanAnswer g.queued.task (left_by start journal) old before
    answers runs = can_answer g.queued.task turn.0 (left_by start journal) old before run g.queued.place (said_by journal g.queued.place) g.goes.store runs turn.2 (λ name uid is.
        files_found s.serving.follows.around s.serving.follows.after script start run journal began.history before g.queued.place (k + 1) turn.0 (s.fetched g.queued.place (k + 1) name uid (turn.1.asked ∙ ap (λ (q : Request). Some (k + 1, q)) is)) turn.1.asked s.serving.follows.next s.serving.serves.legal.steps (s.serving.serves.settled runs))

    tells : old.stopped ≡ false → TellsRun g.queued.task run old
    tells runs = tells_run g.queued.task run old (tells_uses start script run journal broken replies began (seen_in old before first) (lanes_of rows) old before s.serving s.lanes (s.accounts runs) runs runs)

    did : (found : Around) × FindsAround g.queued.task turn.0 old before nothing_around (ended_by event.ended) found
        × (d : DidEvent found nothing_around run (k + 1) g.queued.place (said_by journal g.queued.place) turn.0 (left_by start journal) (seen_in old before first) (seen_in new after second) (did_of g.next) (ended_by event.ended))
        × (ended_by event.ended ≡ None → StandsTask g.next new after turn.0 (and_then run d.makes.event) g.queued.place (and_told (said_by journal g.queued.place) d.makes.answer))
    did = g.goes.steps turn.0 nothing_around nothing_around run (k + 1) g.queued.place (said_by journal g.queued.place) (left_by start journal) s.serving.serves.come s.serving.serves.shown finds tells answers turn.2

    found : Around
    found = did.0

    d : (d : DidEvent found nothing_around run (k + 1) g.queued.place (said_by journal g.queued.place) turn.0 (left_by start journal) (seen_in old before first) (seen_in new after second) (did_of g.next) (ended_by event.ended))
        × (ended_by event.ended ≡ None → StandsTask g.next new after turn.0 (and_then run d.makes.event) g.queued.place (and_told (said_by journal g.queued.place) d.makes.answer))
    d = (did.2, did.3)

    then_run : Run
    then_run = and_then run d.0.makes.event

    then_journal : List JournalStep
    then_journal = journal_behind run turn.0 journal d.0.makes.event d.0.makes.answer d.0.left

    ran : new.stopped ≡ false → old.stopped ≡ false
    ran = ran_before old.stopped new.stopped (λ stopped. ap (λ (s : Seen). s.stopped) (d.0.ends.still stopped) ∙ stopped)

    quiet_then : (new.stopped ≡ false → old.stopped ≡ false) → (d.0.makes.event.refused ≢ Some refusal.ReadFault → (IsFault (did_of g.next) → ⊥) → NoFault first second) → (new.stopped ≡ false → IsFault (did_of g.next) → ⊥) → new.stopped ≡ false
        → All (λ event. event.refused ≢ Some refusal.ReadFault) (run.events ++ d.0.makes.event ∷ []) → NoFault began.faults second
    quiet_then ran unfailed unfaulted runs unread = unfailed (All-pop unread_event (run.events ++ d.0.makes.event ∷ []) run.events (Some d.0.makes.event) refl unread).1 (unfaulted runs) ∙ s.quiet (ran runs) (All-pop unread_event (run.events ++ d.0.makes.event ∷ []) run.events (Some d.0.makes.event) refl unread).0

    served : (failed : Broken) × IsServing (stands_then new after second) start script then_run then_journal failed (replies_behind (ended_by event.ended) g.queued.place replies) began (seen_in new after second) (slice_set (lanes_of rows) k (lane_behind (ended_by event.ended) g.next (lane_value row)))
        × BreaksBy (did_of g.next) run d.0.makes.event (told_calls before) broken failed
    served = lane_goes_on (stands_in old before) (stands_then new after second) start script run journal broken replies began (seen_in old before first) (seen_in new after second) (lanes_of rows) k g.queued.place (map (λ (q : Queued). q.place) row.waiting) (lane_value row) turn.0 g.next found nothing_around (did_of g.next) (ended_by event.ended)
        s.serving (others_stand rows k row g.queued g.next old new before after second there g.was ran g.goes.claims g.goes.leaves s.accounts) (value_at rows k row there) (queue_is row g.queued g.was) turn.1.asked d.0 g.goes.image (λ runs. (g.goes.leaves runs).firm.stays) (λ more comes. d.1 more)

    beside : (t : Task) → HasComeBeside t new after second then_run
    beside t = record {
      come = λ runs. d.0.come;
      spared = λ stopped.
          let refused = refused_stopped (did_of g.next) turn.0 run (left_by start journal) d.0.left d.0.makes.event d.0.makes.answer (seen_in old before first) (seen_in new after second) d.0.went s.serving.serves.stopped_by served.1.stays_stopped stopped in
          subst (λ (o : Option RunEvent). IfSome o (SparesTask t)) (sym (last_push run.events d.0.makes.event)) (spares_all t d.0.makes.event (d.0.makes.is_event.undone refused.0 refused.1).0);
    }

    goes : (failed : Broken) × IsServing (stands_in new after) start script then_run then_journal failed (replies_behind (ended_by event.ended) g.queued.place replies) began (seen_in new after second) (slice_set (lanes_of rows) k (lane_behind (ended_by event.ended) g.next (lane_value row)))
        × BreaksBy (did_of g.next) run d.0.makes.event (told_calls before) broken failed
    goes = (
      served.0,
      serves_as (stands_then new after second) (stands_in new after) start script then_run then_journal served.0 (replies_behind (ended_by event.ended) g.queued.place replies) began (seen_in new after second) (slice_set (lanes_of rows) k (lane_behind (ended_by event.ended) g.next (lane_value row)))
          (λ t asked place said stands. stands (beside t)) served.1,
      served.2,
    )
