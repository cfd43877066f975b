-- A request that is added to a world.
use Rattle.std.proofs.Common.{◌≡◌, ◌<◌, ◌≤◌, ◌+◌, ◌-◌, ◌==◌, ℕ, zero, suc, Bool, true, false, cond, List, [], ◌∷◌, ◌++◌, map, slice_set, Option, Some, None, refl, sym, ◌∙◌, ap, subst, arith, inl, inr}
use Rattle.std.specs.Prelude.{◌≢◌, ◌⊎◌, ◌&&◌, All, is_some, length, slice_get}
use Rattle.std.specs.Option.{option_map_or}
use Rattle.std.proofs.lemmas.List.{length-append, length-set}
use Rattle.std.proofs.lemmas.List.Elements.{All-append, All-cons, All-head, All-nil, All-tail, All-weaker, All-push}
use Rattle.std.proofs.lemmas.List.Sums.{sum_by-cons}
use Rattle.std.proofs.lemmas.Option.{slice_get_within}
use Rattle.disk_model.specs.Disk.{Faults, History}
use Rattle.mdbox_base.specs.declared.ids.Uid.{Uid}
use Rattle.mdbox_base.specs.declared.replies.Reply.{Reply}
use Rattle.mdbox_base.specs.declared.requests.Request.{Request}
use Rattle.mdbox_base.specs.declared.requests.Request.TheVariants as request
use Rattle.mdbox_base.specs.declared.script.JournalEntry.{JournalEntry}
use Rattle.model_lists.specs.Lists.{Lists}
use Rattle.list_machine.specs.Run.{Run, RunEvent, own_events}
use Rattle.journal.proofs.ReachedLemmas.{get_last}
use Rattle.journal.specs.Journal.{Broken, JournalStep, Requests}
use Rattle.journal.proofs.JournalLemmas.{get_more}
use Rattle.serving.specs.Accounts.{IsReadyLane, LanesAccount, lane_claims}
use Rattle.serving.specs.Lanes.{LaneValue, said_by}
use Rattle.serving.specs.Serving.{IsServing}
use Rattle.serving.specs.Turns.{IsTraceOf, IsTrueTurn, LaneTurn}
use Rattle.serving.proofs.LaneLemmas.{get_set_other, get_set_same, nat_cases, one_some}
use Rattle.serving.proofs.TakeUpLemmas.{TakesUp, serving_taken_up}
use Rattle.store_core.specs.Value.{StoreValue}
use Rattle.task_claims.specs.Claims.{Claims, Thing, one_if, total_claims}
use Rattle.task_steps.specs.Step.{Seen}
use Rattle.mail_fetch.specs.Task.{seen_in}
use Rattle.lane_tasks.specs.Tasks.{BeginsTask, IsReadyTask, claims_at}
use Rattle.lane_tasks.specs.declared.task.Task.{Task}
use Rattle.lane_tasks.proofs.StandLemmas.{begins_ready, begins_standing, begins_unclaimed}
use Rattle.lanes.proofs.WorldLemmas.{one_none}
use Rattle.lanes.proofs.KeptLemmas.{map_more}
use Rattle.lanes.specs.Asked.{HasNoIdleTurn, IsRequestAsked, asked_behind, row_asked, world_asked}
use Rattle.lanes.specs.Going.{AreUndamaged, AreWaiting, FindsMessages, IsGoing, IsUndamaged, WaitsWithTask, stands_in}
use Rattle.lanes.specs.Rows.{LaneRow, lane_value, lanes_of, queue_in}
use Rattle.lanes.specs.Worlds.{BeginsSome, IsSoundWorld, IsWorldOf, WorldValue, replied_in, times_waiting}
use Rattle.lanes.specs.declared.lane.Queued.{Queued}
use Rattle.lanes.proofs.GoingLemmas.{all_waiting, as_many, rows_set, value_at, set_twice, row_cases}
use Rattle.lanes.proofs.GrowLemmas.{events_old, no_events, old_or_last, old_reply, serving_grows}
use Rattle.lanes.proofs.SoundLemmas.{each_set}
use Rattle.lanes.proofs.WaitingLemmas.{equal_test, sum_set, times_cons, times_in}

-- ---- a lane

pub behind_idle : (q : Queued) (row : LaneRow) → row.current ≡ None → row_asked q row ≡ record { current = Some q; waiting = [] }
behind_idle q row none = ap (λ (o : Option Queued). option_map_or (λ (first : Queued). record { current = Some first; waiting = row.waiting ++ q ∷ [] }) o (record { current = Some q; waiting = [] })) none

pub behind_busy : (q : Queued) (row : LaneRow) (first : Queued) → row.current ≡ Some first → row_asked q row ≡ record { current = Some first; waiting = row.waiting ++ q ∷ [] }
behind_busy q row first was = ap (λ (o : Option Queued). option_map_or (λ (first : Queued). record { current = Some first; waiting = row.waiting ++ q ∷ [] }) o (record { current = Some q; waiting = [] })) was

-- a lane that has these requests behind the first
abbrev busy_value : Queued → List ℕ → LaneValue Task
busy_value first places = record { queue = first.place ∷ places; task = Some first.task }

-- a lane that has this request alone
abbrev idle_value : ℕ → Option Task → LaneValue Task
idle_value place task = record { queue = place ∷ []; task = task }

-- its queue
pub queue_behind : (q : Queued) (row : LaneRow) → queue_in (row_asked q row) ≡ queue_in row ++ q.place ∷ []
queue_behind q = row_cases (λ row. queue_in (row_asked q row) ≡ queue_in row ++ q.place ∷ []) (λ waiting. refl) (λ first waiting. ap (λ (ps : List ℕ). first.place ∷ ps) (map_more (λ (x : Queued). x.place) waiting q))

-- what holds of each request of a lane, and of this one, holds of those that wait then
waiting_behind : (P : Queued → Type 0) (q : Queued) (row : LaneRow) → P q → All P row.waiting → All P (row_asked q row).waiting
waiting_behind P q row own = row_cases (λ r. All P r.waiting → All P (row_asked q r).waiting) (λ waiting all. All-nil P) (λ first waiting all. All-push P waiting q all own) row

-- it claims what it did, since its task is the same, or begins
same_claims : (asked : Request) (q : Queued) (row : LaneRow) (thing : Thing) → BeginsTask asked q.task → lane_claims claims_at (lane_value (row_asked q row)) thing ≡ lane_claims claims_at (lane_value row) thing
same_claims asked q row thing begins = row_cases (λ r. lane_claims claims_at (lane_value (row_asked q r)) thing ≡ lane_claims claims_at (lane_value r) thing) (λ waiting. begins_unclaimed asked q.task begins thing) (λ first waiting. refl) row

ready_behind : {D : Type 0} → (asked : Request) (q : Queued) (row : LaneRow) (store : StoreValue D) (history : Option History) → BeginsTask asked q.task → IsReadyLane IsReadyTask (lane_value row) store history → IsReadyLane IsReadyTask (lane_value (row_asked q row)) store history
ready_behind asked q row store history begins =
    row_cases (λ r. IsReadyLane IsReadyTask (lane_value r) store history → IsReadyLane IsReadyTask (lane_value (row_asked q r)) store history)
    (λ waiting ready task has. subst (λ (t : Task). IsReadyTask t store history) (one_some q.task task has) (begins_ready asked q.task store history begins)) (λ first waiting ready. ready) row

-- ---- all lanes

total_same : (rows : List LaneRow) (k : ℕ) (row now : LaneRow) (thing : Thing) → slice_get rows k ≡ Some row → lane_claims claims_at (lane_value now) thing ≡ lane_claims claims_at (lane_value row) thing
    → total_claims (map (lane_claims claims_at) (lanes_of (slice_set rows k now))) thing ≡ total_claims (map (lane_claims claims_at) (lanes_of rows)) thing
total_same [] k row now thing there same = refl
total_same (a ∷ rows) zero row now thing there same =
    let is : a ≡ row = one_some a row there in
    let own : lane_claims claims_at (lane_value now) thing ≡ lane_claims claims_at (lane_value a) thing = same ∙ sym (ap (λ (r : LaneRow). lane_claims claims_at (lane_value r) thing) is) in
    let s = sum_by-cons (λ (c : Claims). c thing) (lane_claims claims_at (lane_value now)) (map (lane_claims claims_at) (lanes_of rows)) in
    let t = sum_by-cons (λ (c : Claims). c thing) (lane_claims claims_at (lane_value a)) (map (lane_claims claims_at) (lanes_of rows)) in
    omega (arith, own, s, t)
total_same (a ∷ rows) (suc k) row now thing there same =
    let h = total_same rows k row now thing there same in
    let s = sum_by-cons (λ (c : Claims). c thing) (lane_claims claims_at (lane_value a)) (map (lane_claims claims_at) (lanes_of (slice_set rows k now))) in
    let t = sum_by-cons (λ (c : Claims). c thing) (lane_claims claims_at (lane_value a)) (map (lane_claims claims_at) (lanes_of rows)) in
    omega (arith, h, s, t)

pub accounts_behind : {D : Type 0} → (asked : Request) (rows : List LaneRow) (k : ℕ) (row : LaneRow) (q : Queued) (store : StoreValue D) (history : Option History) → slice_get rows k ≡ Some row → BeginsTask asked q.task → LanesAccount claims_at IsReadyTask store history (lanes_of rows)
    → LanesAccount claims_at IsReadyTask store history (lanes_of (slice_set rows k (row_asked q row)))
accounts_behind asked rows k row q store history there begins all = record {
  adds_up = λ thing. all.adds_up thing ∙ sym (total_same rows k row (row_asked q row) thing there (same_claims asked q row thing begins));
  ready = λ j other is. by_lane j other (ap (λ (vs : List (LaneValue Task)). slice_get vs j) (sym (rows_set rows k (row_asked q row))) ∙ is) (nat_cases k j);
}
  where
    now : LaneValue Task
    now = lane_value (row_asked q row)

    by_lane : (j : ℕ) (other : LaneValue Task) → slice_get (slice_set (lanes_of rows) k now) j ≡ Some other → (k ≡ j) ⊎ (k ≢ j) → IsReadyLane IsReadyTask other store history
    by_lane j other is (inl e) =
        subst (λ (v : LaneValue Task). IsReadyLane IsReadyTask v store history)
        (one_some now other (sym (get_set_same (lanes_of rows) k now (lane_value row) (value_at rows k row there)) ∙ (ap (λ (n : ℕ). slice_get (slice_set (lanes_of rows) k now) n) e ∙ is)))
        (ready_behind asked q row store history begins (all.ready k (lane_value row) (value_at rows k row there)))
    by_lane j other is (inr apart) = all.ready j other (sym (get_set_other (lanes_of rows) k j now apart) ∙ is)

-- ---- how often requests wait

push_times : (place last : ℕ) (ps : List ℕ) → times_in place (ps ++ last ∷ []) ≡ times_in place ps + one_if (last == place)
push_times place last [] = let c = times_cons place last [] in omega (arith, c)
push_times place last (p ∷ ps) = let h = push_times place last ps in let c = times_cons place p (ps ++ last ∷ []) in let d = times_cons place p ps in omega (arith, h, c, d)

times_behind : (place : ℕ) (rows : List LaneRow) (k : ℕ) (row : LaneRow) (q : Queued) → slice_get rows k ≡ Some row → times_waiting place (slice_set rows k (row_asked q row)) ≡ times_waiting place rows + one_if (q.place == place)
times_behind place rows k row q there =
    let moved = sum_set (λ (r : LaneRow). times_in place (queue_in r)) rows k row (row_asked q row) there in
    let now : times_in place (queue_in (row_asked q row)) ≡ times_in place (queue_in row) + one_if (q.place == place) = ap (times_in place) (queue_behind q row) ∙ push_times place q.place (queue_in row) in
    omega (arith, moved, now)

none_in : (place most : ℕ) (ps : List ℕ) → most ≤ place → All (λ p. p < most) ps → times_in place ps ≡ 0
none_in place most [] less all = refl
none_in place most (p ∷ ps) less all =
    let own = All-head (λ (p : ℕ). p < most) p ps all in
    let h = none_in place most ps less (All-tail (λ (p : ℕ). p < most) p ps all) in
    let c = times_cons place p ps in
    let z = (equal_test p place).1 (λ e. absurd (omega (arith, e, own, less))) in
    omega (arith, h, c, z)

none_waits : (place most : ℕ) (rows : List LaneRow) → most ≤ place → ((k : ℕ) (row : LaneRow) → slice_get rows k ≡ Some row → All (λ p. p < most) (queue_in row)) → times_waiting place rows ≡ 0
none_waits place most [] less all = refl
none_waits place most (row ∷ rows) less all =
    let h = none_waits place most rows less (λ k r there. all (suc k) r there) in
    let s = sum_by-cons (λ (r : LaneRow). times_in place (queue_in r)) row rows in
    let z = none_in place most (queue_in row) less (all 0 row refl) in
    omega (arith, h, s, z)

-- ---- what every world keeps

pub longer : (replies : List (Option Reply)) → length (replies ++ None ∷ []) ≡ length replies + 1
longer replies = length-append replies (None ∷ [])

pub sound_asked : {D : Type 0} → (lane : ℕ) (asked : Request) (task : Task) (row : LaneRow) (old : WorldValue D) (history : Option History) → slice_get old.rows (lane - 1) ≡ Some row → BeginsTask asked task → length old.replies < 100000 → old.finished ≡ false → IsSoundWorld history old → IsSoundWorld history (world_asked lane task row old)
sound_asked {D} lane asked task row old history there begins few running s = record {
  few = let n = many in let f = s.few in omega (arith, n, f);
  waiting = λ j other is. each_set (λ r. All BeginsSome r.waiting) old.rows (lane - 1) row now there (waiting_behind BeginsSome q row (asked, begins) (s.waiting (lane - 1) row there)) s.waiting j other is;
  accounts = λ runs. accounts_behind asked old.rows (lane - 1) row q old.store history there begins (s.accounts runs);
  places = λ j other is. subst (λ (n : ℕ). All (λ place. place < n) (queue_in other)) (sym (longer old.replies))
      (each_set (λ r. All (λ place. place < length old.replies + 1) (queue_in r)) old.rows (lane - 1) row now there
      (subst (λ (ps : List ℕ). All (λ place. place < length old.replies + 1) ps) (sym (queue_behind q row))
      (All-append (λ (place : ℕ). place < length old.replies + 1) (queue_in row) (q.place ∷ []) (weaker row (s.places (lane - 1) row there)) (All-cons (λ (place : ℕ). place < length old.replies + 1) q.place [] (omega arith) (All-nil (λ (place : ℕ). place < length old.replies + 1)))))
      (λ i r at. weaker r (s.places i r at)) j other is);
  once = λ place given is. once place given is (old_or_last old.replies None place given is);
  short = let n = longer old.replies in omega (arith, n, few);
  clock = s.clock;
  many = let n = many in let m = s.many in omega (arith, n, m);
  room = let n = longer old.replies in let m = many in let r = s.room in omega (arith, n, m, r);
  idle = λ done. absurd (let z : true ≡ false = sym done ∙ running in cc z);
}
  where
    q : Queued
    q = record { place = length old.replies; task = task }

    now : LaneRow
    now = row_asked q row

    many : length (slice_set old.rows (lane - 1) now) ≡ length old.rows
    many = length-set old.rows (lane - 1) now

    weaker : (r : LaneRow) → All (λ place. place < length old.replies) (queue_in r) → All (λ place. place < length old.replies + 1) (queue_in r)
    weaker r all = All-weaker (λ (place : ℕ). place < length old.replies) (λ (place : ℕ). place < length old.replies + 1) (λ place less. omega (arith, less)) (queue_in r) all

    once : (place : ℕ) (given : Option Reply) → slice_get (old.replies ++ None ∷ []) place ≡ Some given → (slice_get old.replies place ≡ Some given) ⊎ ((place ≡ length old.replies) × (None ≡ given)) → times_waiting place (slice_set old.rows (lane - 1) now) ≡ cond (is_some given) 0 1
    once place given is (inl was) =
        let t = times_behind place old.rows (lane - 1) row q there in
        let inside = slice_get_within old.replies place given was in
        let z = (equal_test (length old.replies) place).1 (λ e. absurd (omega (arith, e, inside))) in
        let all : times_waiting place (slice_set old.rows (lane - 1) now) ≡ times_waiting place old.rows = omega (arith, t, z) in
        all ∙ s.once place given was
    once place given is (inr (last, none)) =
        let t = times_behind place old.rows (lane - 1) row q there in
        let one = (equal_test (length old.replies) place).0 (sym last) in
        let z = none_waits place (length old.replies) old.rows (omega (arith, last)) s.places in
        let all : times_waiting place (slice_set old.rows (lane - 1) now) ≡ 1 = omega (arith, t, one, z) in
        all ∙ ap (λ (o : Option Reply). cond (is_some o) 0 1) none

-- what its call makes of it is the world with the request
pub world_set : {D : Type 0} → (lane : ℕ) (task : Task) (row now : LaneRow) (q : Queued) (old : WorldValue D) (replies : List (Option Reply)) (scripted : ℕ) (journal : List JournalEntry) (turns : List LaneTurn) → now ≡ row_asked q row → q ≡ record { place = length old.replies; task = task } → replies ≡ old.replies ++ None ∷ [] → scripted ≡ old.scripted → journal ≡ old.journal → turns ≡ old.turns
    → record old { rows = slice_set old.rows (lane - 1) now; replies = replies; scripted = scripted; journal = journal; turns = turns; turn_room = old.turn_room + 16 } ≡ world_asked lane task row old
world_set lane task row now q old replies scripted journal turns is asked told first entries taken =
    let p : now ≡ row_asked (record { place = length old.replies; task = task }) row = is ∙ ap (λ (one : Queued). row_asked one row) asked in
    λ i. record old { rows = slice_set old.rows (lane - 1) (p i); replies = told i; scripted = first i; journal = entries i; turns = taken i; turn_room = old.turn_room + 16 }

-- ---- the script grows

grown_lanes : (script : Requests) (q : ℕ × Request) (lanes : ℕ) → All (λ asked. (0 < asked.0) × (asked.0 ≤ lanes)) script → (0 < q.0) × (q.0 ≤ lanes) → All (λ asked. (0 < asked.0) × (asked.0 ≤ lanes)) (script ++ q ∷ [])
grown_lanes script q lanes all own = All-append (λ (asked : ℕ × Request). (0 < asked.0) × (asked.0 ≤ lanes)) script (q ∷ []) all (All-cons (λ (asked : ℕ × Request). (0 < asked.0) × (asked.0 ≤ lanes)) q [] own (All-nil (λ (asked : ℕ × Request). (0 < asked.0) × (asked.0 ≤ lanes))))

grown_waiting : (script : Requests) (q : ℕ × Request) (lane : ℕ) (waiting : List Queued) → AreWaiting script lane waiting → AreWaiting (script ++ q ∷ []) lane waiting
grown_waiting script q lane waiting all = All-weaker (WaitsWithTask script lane) (WaitsWithTask (script ++ q ∷ []) lane) (λ one w. (w.0, get_more script (q ∷ []) one.place (lane, w.0) w.1, w.2)) waiting all

counts_grow : (lane : ℕ) (script : Requests) (q : ℕ × Request) (replies : List (Option Reply)) → length replies ≡ length script → replied_in lane (script ++ q ∷ []) (replies ++ None ∷ []) ≡ replied_in lane script replies
counts_grow lane [] q [] many = let none = one_none lane q in omega (arith, none)
counts_grow lane [] q (r ∷ replies) many = absurd (omega (arith, many))
counts_grow lane (a ∷ script) q [] many = absurd (omega (arith, many))
counts_grow lane (a ∷ script) q (r ∷ replies) many = let h = counts_grow lane script q replies (omega (arith, many)) in ap (λ (n : ℕ). cond (a.0 == lane && is_some r) 1 0 + n) h

-- the lanes serve the script with the request, which is in turn with its task if the lane had none
serving_asked : {D : Type 0} → (start : Lists) (script : Requests) (run : Run) (journal : List JournalStep) (broken : Broken) (replies : List (Option Reply)) (began now : Seen) (store : StoreValue D) (history : Option History) (rows : List LaneRow) (k : ℕ) (row : LaneRow) (asked : Request) (task : Task) → slice_get rows k ≡ Some row → BeginsTask asked task
    → IsServing (stands_in store history) start script run journal broken replies began now (lanes_of rows)
    → IsServing (stands_in store history) start (script ++ (k + 1, asked) ∷ []) run journal broken (replies ++ None ∷ []) began now (lanes_of (slice_set rows k (row_asked (record { place = length script; task = task }) row)))
serving_asked {D} start script run journal broken replies began now store history rows k row asked task there begins s = by_current row.current refl
  where
    q : Queued
    q = record { place = length script; task = task }

    grown : IsServing (stands_in store history) start (script ++ (k + 1, asked) ∷ []) run journal broken (replies ++ None ∷ []) began now (slice_set (lanes_of rows) k (asked_behind (length script) (lane_value row)))
    grown = serving_grows (stands_in store history) start script run journal broken replies began now (lanes_of rows) k (lane_value row) asked (value_at rows k row there) s

    Grown : List (LaneValue Task) → Type 0
    Grown lanes = IsServing (stands_in store history) start (script ++ (k + 1, asked) ∷ []) run journal broken (replies ++ None ∷ []) began now lanes

    at_now : (value : LaneValue Task) → lane_value (row_asked q row) ≡ value → slice_set (lanes_of rows) k value ≡ lanes_of (slice_set rows k (row_asked q row))
    at_now value is = ap (slice_set (lanes_of rows) k) (sym is) ∙ sym (rows_set rows k (row_asked q row))

    by_current : (o : Option Queued) → row.current ≡ o → Grown (lanes_of (slice_set rows k (row_asked q row)))
    by_current (Some first) was =
        let value : lane_value (row_asked q row) ≡ asked_behind (length script) (lane_value row) =
        ap lane_value (behind_busy q row first was) ∙ (ap (busy_value first) (map_more (λ (x : Queued). x.place) row.waiting q) ∙ sym (ap (λ (o : Option Queued). asked_behind (length script) (lane_value (record row { current = o }))) was)) in
        subst Grown (at_now (asked_behind (length script) (lane_value row)) value) grown
    by_current None none =
        let own : asked_behind (length script) (lane_value row) ≡ idle_value (length script) None = ap (λ (o : Option Queued). asked_behind (length script) (lane_value (record row { current = o }))) none in
        let value : lane_value (row_asked q row) ≡ idle_value (length script) (Some task) = ap lane_value (behind_idle q row none) in
        let idle : Grown (slice_set (lanes_of rows) k (idle_value (length script) None)) = subst (λ (v : LaneValue Task). Grown (slice_set (lanes_of rows) k v)) own grown in
        let taken = serving_taken_up (stands_in store history) start (script ++ (k + 1, asked) ∷ []) run journal broken (replies ++ None ∷ []) began now (slice_set (lanes_of rows) k (idle_value (length script) None)) k (idle_value (length script) None) task
        (get_set_same (lanes_of rows) k (idle_value (length script) None) (lane_value row) (value_at rows k row there)) refl takes idle in
        subst Grown (set_twice (lanes_of rows) k (idle_value (length script) None) (idle_value (length script) (Some task)) ∙ at_now (idle_value (length script) (Some task)) value) taken
      where
        takes : TakesUp (stands_in store history) (script ++ (k + 1, asked) ∷ []) run journal (k + 1) (length script ∷ []) task
        takes request at unbegun =
            let same : asked ≡ request = ap (λ (x : ℕ × Request). x.1) (one_some (k + 1, asked) (k + 1, request) (sym (get_last script (k + 1, asked)) ∙ at)) in
            begins_standing request task store history run (length script) (said_by journal (length script)) (subst (λ (r : Request). BeginsTask r task) same begins) unbegun

undamaged_grows : (script : Requests) (q : ℕ × Request) (run : Run) (replies : List (Option Reply)) → own_events (length script) run ≡ [] → AreUndamaged script run replies → AreUndamaged (script ++ q ∷ []) run (replies ++ None ∷ [])
undamaged_grows script q run replies none u = record {
  events = λ place lane name uid at. by_case place lane name uid (old_or_last script q place (lane, request.Fetch name uid) at);
  none_told = λ i given has. u.none_told i given (old_reply replies i given has);
}
  where
    by_case : (place lane : ℕ) (name : List ℕ) (uid : Uid) → (slice_get script place ≡ Some (lane, request.Fetch name uid)) ⊎ ((place ≡ length script) × (q ≡ (lane, request.Fetch name uid))) → All IsUndamaged (own_events place run)
    by_case place lane name uid (inl was) = u.events place lane name uid was
    by_case place lane name uid (inr (last, is)) = subst (λ (es : List RunEvent). All IsUndamaged es) (sym (ap (λ (n : ℕ). own_events n run) last ∙ none)) (All-nil IsUndamaged)

going_asked : {D : Type 0} → (start : Lists) (script : Requests) (run : Run) (journal : List JournalStep) (broken : Broken) (replies : List (Option Reply)) (began : Seen) (store : StoreValue D) (history : Option History) (faults : Faults) (rows : List LaneRow) (k : ℕ) (row : LaneRow) (asked : Request) (task : Task) → slice_get rows k ≡ Some row → BeginsTask asked task
    → ((place at : ℕ) (name : List ℕ) (uid : Uid) → slice_get (script ++ (k + 1, asked) ∷ []) place ≡ Some (at, request.Fetch name uid) → FindsMessages start (script ++ (k + 1, asked) ∷ []) run began.history history)
    → IsGoing start script run journal broken replies began store history faults rows
    → IsGoing start (script ++ (k + 1, asked) ∷ []) run journal broken (replies ++ None ∷ []) began store history faults (slice_set rows k (row_asked (record { place = length script; task = task }) row))
going_asked {D} start script run journal broken replies began store history faults rows k row asked task there begins finds g = record {
  serving = serving_asked start script run journal broken replies began (seen_in store history faults) store history rows k row asked task there begins g.serving;
  lanes = subst (λ (n : ℕ). All (λ one. (0 < one.0) × (one.0 ≤ n)) (script ++ (k + 1, asked) ∷ [])) (sym (as_many rows k now)) (grown_lanes script (k + 1, asked) (length (lanes_of rows)) g.lanes (omega arith, (let inside = slice_get_within (lanes_of rows) k (lane_value row) (value_at rows k row there) in omega (arith, inside))));
  few = let n = length-set rows k now in let f = g.few in omega (arith, n, f);
  waiting = all_waiting (script ++ (k + 1, asked) ∷ []) rows k row now there
      (waiting_behind (WaitsWithTask (script ++ (k + 1, asked) ∷ []) (k + 1)) q row (asked, get_last script (k + 1, asked), begins) (grown_waiting script (k + 1, asked) (k + 1) row.waiting (g.waiting k row there)))
      (λ j other at. grown_waiting script (k + 1, asked) (j + 1) other.waiting (g.waiting j other at));
  accounts = λ runs. accounts_behind asked rows k row q store history there begins (g.accounts runs);
  quiet = g.quiet;
  fetched = finds;
  undamaged = undamaged_grows script (k + 1, asked) run replies (no_events start script run journal replies (k + 1, asked) (events_old start script run journal replies (k + 1, asked) g.serving.follows.around g.serving.follows.after g.serving.follows.next)) g.undamaged;
}
  where
    q : Queued
    q = record { place = length script; task = task }

    now : LaneRow
    now = row_asked q row

-- turns that were not idle are a trace also of lanes with more requests
trace_asked : (finished : Bool) (turns : List LaneTurn) (run : Run) (lanes more : List (LaneValue Task)) → All (λ turn. turn.idle ≡ false) turns → IsTraceOf finished turns run lanes → IsTraceOf finished turns run more
trace_asked finished turns run lanes more none t = record {
  worked = t.worked;
  idle = All-weaker (λ (turn : LaneTurn). turn.idle ≡ false) (IsTrueTurn more) (λ turn busy idle. absurd (let z : true ≡ false = sym idle ∙ busy in cc z)) turns none;
}

world_grows : {D : Type 0} → (k : ℕ) (asked : Request) (start : Lists) (script : Requests) (run : Run) (steps : List JournalStep) (failed : Broken) (began : Seen) (row : LaneRow) (task : Task) (old : WorldValue D) (history : Option History) (faults : Faults) → slice_get old.rows k ≡ Some row → BeginsTask asked task → HasNoIdleTurn old
    → ((place at : ℕ) (name : List ℕ) (uid : Uid) → slice_get (script ++ (k + 1, asked) ∷ []) place ≡ Some (at, request.Fetch name uid) → FindsMessages start (script ++ (k + 1, asked) ∷ []) run began.history history)
    → IsWorldOf start script run steps failed began history faults old
    → IsWorldOf start (script ++ (k + 1, asked) ∷ []) run steps failed began history faults (record old { rows = slice_set old.rows k (row_asked (record { place = length old.replies; task = task }) row); replies = old.replies ++ None ∷ []; turn_room = old.turn_room + 16 })
world_grows {D} k asked start script run steps failed began row task old history faults there begins none finds is = record {
  going = subst (λ (n : ℕ). IsGoing start (script ++ (k + 1, asked) ∷ []) run steps failed (old.replies ++ None ∷ []) began old.store history faults (slice_set old.rows k (row_asked (record { place = n; task = task }) row))) (sym many)
      (going_asked start script run steps failed old.replies began old.store history faults old.rows k row asked task there begins finds is.going);
  entries = is.entries;
  broken = is.broken;
  counts = λ j count at. is.counts j count at ∙ sym (counts_grow (j + 1) script (k + 1, asked) old.replies many);
  trace = trace_asked old.finished old.turns run (lanes_of old.rows) _ none is.trace;
}
  where
    many : length old.replies ≡ length script
    many = is.going.serving.given.0

pub asked_grows : {D : Type 0} → (lane : ℕ) (asked : Request) (start : Lists) (script : Requests) (run : Run) (steps : List JournalStep) (failed : Broken) (began : Seen) (old new : WorldValue D) (history : Option History) (faults : Faults) → IsRequestAsked lane asked old new → HasNoIdleTurn old
    → ((place at : ℕ) (name : List ℕ) (uid : Uid) → slice_get (script ++ (lane, asked) ∷ []) place ≡ Some (at, request.Fetch name uid) → FindsMessages start (script ++ (lane, asked) ∷ []) run began.history history)
    → IsWorldOf start script run steps failed began history faults old → IsWorldOf start (script ++ (lane, asked) ∷ []) run steps failed began history faults new
asked_grows {D} lane asked start script run steps failed began old new history faults a none finds is =
    let some = a.is_lane in
    let number : lane - 1 + 1 ≡ lane = omega (arith, some) in
    let grown : Requests = script ++ (lane - 1 + 1, asked) ∷ [] in
    let at : grown ≡ script ++ (lane, asked) ∷ [] = ap (λ (n : ℕ). script ++ (n, asked) ∷ []) number in
    let there = world_grows (lane - 1) asked start script run steps failed began a.row a.task old history faults a.there a.begins none
    (subst (λ (s : Requests). (place at : ℕ) (name : List ℕ) (uid : Uid) → slice_get s place ≡ Some (at, request.Fetch name uid) → FindsMessages start s run began.history history) (sym at) finds) is in
    subst (λ (w : WorldValue D). IsWorldOf start (script ++ (lane, asked) ∷ []) run steps failed began history faults w) (sym a.new_is)
    (subst (λ (s : Requests). IsWorldOf start s run steps failed began history faults (world_asked lane a.task a.row old)) at there)
