-- How often a request waits in the lanes: once, as long as it has no reply.
use Rattle.std.proofs.Common.{◌≡◌, ◌<◌, ◌≤◌, ◌+◌, ◌==◌, ℕ, zero, suc, Bool, true, false, cond, List, [], ◌∷◌, map, slice_set, Option, Some, None, refl, sym, ◌∙◌, ap, subst, arith, inl, inr}
use Rattle.std.specs.Prelude.{◌≢◌, ◌⊎◌, All, count_by, is_some, length, slice_get, sum_by}
use Rattle.std.proofs.lemmas.Grind.{common_steps}
use Rattle.std.proofs.lemmas.List.Elements.{All-head, All-tail}
use Rattle.std.proofs.lemmas.List.Sums.{sum_by-cons, sum_by-set, get_or-le-sum_by}
use Rattle.std.proofs.lemmas.Bool.{eq-eqb, ne_eqb}
use Rattle.std.proofs.lemmas.Option.{slice_get_within, get_or_from_slice_get}
use Rattle.mdbox_base.specs.declared.replies.Reply.{Reply}
use Rattle.mdbox_base.specs.declared.requests.Request.{Request}
use Rattle.journal.specs.Journal.{Requests}
use Rattle.serving.specs.Lanes.{LaneValue, queue_of, replies_behind}
use Rattle.serving.specs.Serving.{AreIdle}
use Rattle.serving.proofs.LaneLemmas.{get_set_other, get_set_same, nat_cases, one_some}
use Rattle.serving.proofs.ServingLemmas.{all_at, some_at}
use Rattle.task_claims.specs.Claims.{one_if}
use Rattle.lane_tasks.specs.declared.task.Task.{Task}
use Rattle.lanes.specs.Rows.{LaneRow, after_event, lane_value, lanes_of, next_in_turn, queue_in}
use Rattle.lanes.specs.Worlds.{times_waiting}
use Rattle.lanes.specs.declared.lane.Queued.{Queued}
use Rattle.lanes.proofs.GoingLemmas.{queue_is}

-- ---- sums

-- how often a place is in a queue
abbrev pub times_in : ℕ → List ℕ → ℕ
times_in place places = count_by (λ other. other == place) places

pub times_cons : (place first : ℕ) (rest : List ℕ) → times_in place (first ∷ rest) ≡ one_if (first == place) + times_in place rest
times_cons place first rest = sum_by-cons (λ (x : ℕ). cond (x == place) 1 0) first rest

pub sum_set : {X : Type 0} → (f : X → ℕ) (xs : List X) (k : ℕ) (x y : X) → slice_get xs k ≡ Some x → sum_by f (slice_set xs k y) + f x ≡ sum_by f xs + f y
sum_set f xs k x y there = let s = sum_by-set f xs k y x (slice_get_within xs k x there) in let at = ap f (get_or_from_slice_get xs k x x there) in omega (arith, s, at)

one_of_sum : {X : Type 0} → (f : X → ℕ) (xs : List X) (k : ℕ) (x : X) → slice_get xs k ≡ Some x → f x ≤ sum_by f xs
one_of_sum f xs k x there = let s = get_or-le-sum_by f xs k x (slice_get_within xs k x there) in let at = ap f (get_or_from_slice_get xs k x x there) in omega (arith, s, at)

pub equal_test : (a b : ℕ) → (a ≡ b → one_if (a == b) ≡ 1) × (a ≢ b → one_if (a == b) ≡ 0)
equal_test a b = (λ e. ap one_if (eq-eqb a b e), λ n. ap one_if (ne_eqb a b n))

-- ---- a lane

first_waits : (row : LaneRow) (first : Queued) (place : ℕ) → row.current ≡ Some first → times_in place (queue_in row) ≡ one_if (first.place == place) + times_in place (map (λ (q : Queued). q.place) row.waiting)
first_waits row first place was = ap (times_in place) (queue_is row first was) ∙ times_cons place first.place (map (λ (q : Queued). q.place) row.waiting)

next_waits : (waiting : List Queued) → queue_in (next_in_turn waiting) ≡ map (λ (q : Queued). q.place) waiting
next_waits [] = refl
next_waits (next ∷ rest) = refl

-- ---- all lanes

-- the places of requests, by whether they have a reply
abbrev pub WaitOnce : List LaneRow → List (Option Reply) → Type 0
WaitOnce rows replies = (place : ℕ) (given : Option Reply) → slice_get replies place ≡ Some given → times_waiting place rows ≡ cond (is_some given) 0 1

-- the request in turn has no reply
pub in_turn_unanswered : (rows : List LaneRow) (replies : List (Option Reply)) (k : ℕ) (row : LaneRow) (first : Queued) → slice_get rows k ≡ Some row → row.current ≡ Some first → first.place < length replies → WaitOnce rows replies → slice_get replies first.place ≡ Some None
in_turn_unanswered rows replies k row first there was inside once = let g = some_at replies first.place inside in by_reply g.0 g.1
  where
    by_reply : (given : Option Reply) → slice_get replies first.place ≡ Some given → slice_get replies first.place ≡ Some None
    by_reply None is = is
    by_reply (Some given) is =
        let none : times_waiting first.place rows ≡ 0 = once first.place (Some given) is in
        let some = one_of_sum (λ (r : LaneRow). times_in first.place (queue_in r)) rows k row there in
        let own = first_waits row first first.place was in
        let one = (equal_test first.place first.place).0 refl in
        absurd (omega (arith, none, some, own, one))

-- they wait once after an event as they did before it
pub wait_once_on : (rows : List LaneRow) (replies : List (Option Reply)) (k : ℕ) (row : LaneRow) (first next : Queued) (ended : Option Reply) → slice_get rows k ≡ Some row → row.current ≡ Some first → next.place ≡ first.place → slice_get replies first.place ≡ Some None → WaitOnce rows replies
    → WaitOnce (slice_set rows k (after_event ended next row.waiting)) (replies_behind ended first.place replies)
wait_once_on rows replies k row first next None there was same none once place given is =
    let moved = sum_set (λ (r : LaneRow). times_in place (queue_in r)) rows k row (after_event None next row.waiting) there in
    let own = first_waits row first place was in
    let now = times_cons place next.place (map (λ (q : Queued). q.place) row.waiting) in
    let alike = ap (λ (n : ℕ). one_if (n == place)) same in
    let all : times_waiting place (slice_set rows k (after_event None next row.waiting)) ≡ times_waiting place rows = omega (arith, moved, own, now, alike) in
    all ∙ once place given is
wait_once_on rows replies k row first next (Some reply) there was same none once place given is = by_case (nat_cases first.place place)
  where
    moved : times_waiting place (slice_set rows k (next_in_turn row.waiting)) + times_in place (queue_in row) ≡ times_waiting place rows + times_in place (map (λ (q : Queued). q.place) row.waiting)
    moved = sum_set (λ (r : LaneRow). times_in place (queue_in r)) rows k row (next_in_turn row.waiting) there ∙ ap (λ (ps : List ℕ). times_waiting place rows + times_in place ps) (next_waits row.waiting)

    by_case : (first.place ≡ place) ⊎ (first.place ≢ place) → times_waiting place (slice_set rows k (next_in_turn row.waiting)) ≡ cond (is_some given) 0 1
    by_case (inl e) =
        let m = moved in
        let own = first_waits row first place was in
        let one = (equal_test first.place place).0 e in
        let was_one : times_waiting place rows ≡ 1 = once place None (ap (slice_get replies) (sym e) ∙ none) in
        let gave : Some reply ≡ given = one_some (Some reply) given (sym (get_set_same replies first.place (Some reply) None none) ∙ (ap (slice_get (slice_set replies first.place (Some reply))) e ∙ is)) in
        let zero_now : times_waiting place (slice_set rows k (next_in_turn row.waiting)) ≡ 0 = omega (arith, m, own, one, was_one) in
        zero_now ∙ ap (λ (o : Option Reply). cond (is_some o) 0 1) gave
    by_case (inr apart) =
        let m = moved in
        let own = first_waits row first place was in
        let one = (equal_test first.place place).1 apart in
        let all : times_waiting place (slice_set rows k (next_in_turn row.waiting)) ≡ times_waiting place rows = omega (arith, m, own, one) in
        all ∙ once place given (sym (get_set_other replies first.place place (Some reply) apart) ∙ is)

-- where no lane has a request left, none waits
idle_waits : (rows : List LaneRow) (place : ℕ) → AreIdle (lanes_of rows) → times_waiting place rows ≡ 0
idle_waits [] place idle = refl
idle_waits (row ∷ rows) place idle =
    let s = sum_by-cons (λ (r : LaneRow). times_in place (queue_in r)) row rows in
    let h = idle_waits rows place (All-tail (λ (value : LaneValue Task). value.queue ≡ []) (lane_value row) (lanes_of rows) idle) in
    let none : times_in place (queue_in row) ≡ 0 = ap (times_in place) (All-head (λ (value : LaneValue Task). value.queue ≡ []) (lane_value row) (lanes_of rows) idle) in
    omega (arith, s, h, none)

-- so each has its reply
pub idle_replied : (rows : List LaneRow) (replies : List (Option Reply)) → AreIdle (lanes_of rows) → WaitOnce rows replies → (i : ℕ) → i < length replies → (given : Reply) × (slice_get replies i ≡ Some (Some given))
idle_replied rows replies idle once i inside = let g = some_at replies i inside in by_reply g.0 g.1
  where
    by_reply : (o : Option Reply) → slice_get replies i ≡ Some o → (given : Reply) × (slice_get replies i ≡ Some (Some given))
    by_reply (Some given) is = (given, is)
    by_reply None is =
        let one : times_waiting i rows ≡ 1 = once i None is in
        let none = idle_waits rows i idle in
        absurd (omega (arith, one, none))

-- ---- as they begin

before_queue : (lane n : ℕ) (part : Requests) (place : ℕ) → place < n → times_in place (queue_of lane n part) ≡ 0
before_queue lane n [] place less = refl
before_queue lane n (a ∷ part) place less = by_test (a.0 == lane) (before_queue lane (n + 1) part place (omega (arith, less)))
  where
    by_test : (b : Bool) → times_in place (queue_of lane (n + 1) part) ≡ 0 → times_in place (cond b (n ∷ queue_of lane (n + 1) part) (queue_of lane (n + 1) part)) ≡ 0
    by_test false rest = rest
    by_test true rest =
        let c = times_cons place n (queue_of lane (n + 1) part) in
        let z = (equal_test n place).1 (λ e. absurd (omega (arith, e, less))) in
        omega (arith, c, z, rest)

queue_times : (lane n : ℕ) (part : Requests) (i : ℕ) (asked : ℕ × Request) → slice_get part i ≡ Some asked → times_in (n + i) (queue_of lane n part) ≡ one_if (asked.0 == lane)
queue_times lane n [] i asked there = absurd (let z : None ≡ Some asked = there in cc z)
queue_times lane n (a ∷ part) zero asked there = by_test (a.0 == lane) refl
  where
    by_test : (b : Bool) → (a.0 == lane) ≡ b → times_in (n + 0) (cond b (n ∷ queue_of lane (n + 1) part) (queue_of lane (n + 1) part)) ≡ one_if (asked.0 == lane)
    by_test true is =
        let c = times_cons (n + 0) n (queue_of lane (n + 1) part) in
        let o = (equal_test n (n + 0)).0 (omega arith) in
        let z = before_queue lane (n + 1) part (n + 0) (omega arith) in
        let s : one_if (asked.0 == lane) ≡ 1 = ap (λ (q : ℕ × Request). one_if (q.0 == lane)) (sym (one_some a asked there)) ∙ ap one_if is in
        omega (arith, c, o, z, s)
    by_test false is =
        let z = before_queue lane (n + 1) part (n + 0) (omega arith) in
        let s : one_if (asked.0 == lane) ≡ 0 = ap (λ (q : ℕ × Request). one_if (q.0 == lane)) (sym (one_some a asked there)) ∙ ap one_if is in
        omega (arith, z, s)
queue_times lane n (a ∷ part) (suc i) asked there = by_test (a.0 == lane) (subst (λ (p : ℕ). times_in p (queue_of lane (n + 1) part) ≡ one_if (asked.0 == lane)) at (queue_times lane (n + 1) part i asked there))
  where
    at : n + 1 + i ≡ n + suc i
    at = omega arith

    by_test : (b : Bool) → times_in (n + suc i) (queue_of lane (n + 1) part) ≡ one_if (asked.0 == lane) → times_in (n + suc i) (cond b (n ∷ queue_of lane (n + 1) part) (queue_of lane (n + 1) part)) ≡ one_if (asked.0 == lane)
    by_test false rest = rest
    by_test true rest =
        let c = times_cons (n + suc i) n (queue_of lane (n + 1) part) in
        let z = (equal_test n (n + suc i)).1 (λ e. absurd (omega (arith, e))) in
        omega (arith, c, z, rest)

-- a sum over lanes, from one on, of which one has it
none_of_lanes : (f : LaneRow → ℕ) (rows : List LaneRow) (base lane : ℕ) → lane ≤ base → ((k : ℕ) (row : LaneRow) → slice_get rows k ≡ Some row → f row ≡ one_if (lane == base + k + 1)) → sum_by f rows ≡ 0
none_of_lanes f [] base lane less each = refl
none_of_lanes f (a ∷ rows) base lane less each =
    let h = none_of_lanes f rows (base + 1) lane (omega (arith, less)) (λ k row there. each (suc k) row there ∙ ap (λ (n : ℕ). one_if (lane == n)) (let e : base + suc k + 1 ≡ base + 1 + k + 1 = omega arith in e)) in
    let z = (equal_test lane (base + 0 + 1)).1 (λ e. absurd (omega (arith, e, less))) in
    let o = each 0 a refl in
    let s = sum_by-cons f a rows in
    omega (arith, h, z, o, s)

one_of_lanes : (f : LaneRow → ℕ) (rows : List LaneRow) (base lane : ℕ) → base < lane → lane ≤ base + length rows → ((k : ℕ) (row : LaneRow) → slice_get rows k ≡ Some row → f row ≡ one_if (lane == base + k + 1)) → sum_by f rows ≡ 1
one_of_lanes f [] base lane some most each = absurd (omega (arith, some, most))
one_of_lanes f (a ∷ rows) base lane some most each = by_case (nat_cases lane (base + 1)) (λ more. one_of_lanes f rows (base + 1) lane more (omega (arith, most)) later)
  where
    later : (k : ℕ) (row : LaneRow) → slice_get rows k ≡ Some row → f row ≡ one_if (lane == base + 1 + k + 1)
    later k row there = each (suc k) row there ∙ ap (λ (n : ℕ). one_if (lane == n)) (let e : base + suc k + 1 ≡ base + 1 + k + 1 = omega arith in e)

    above : (n : ℕ) → base < n → n ≢ base + 1 → base + 1 < n
    above n less differ = grind (arith, common_steps, less, differ)

    by_case : (lane ≡ base + 1) ⊎ (lane ≢ base + 1) → (base + 1 < lane → sum_by f rows ≡ 1) → sum_by f (a ∷ rows) ≡ 1
    by_case (inl e) rest =
        let h = none_of_lanes f rows (base + 1) lane (omega (arith, e)) later in
        let z = (equal_test lane (base + 0 + 1)).0 (omega (arith, e)) in
        let o = each 0 a refl in
        let s = sum_by-cons f a rows in
        omega (arith, h, z, o, s)
    by_case (inr apart) rest =
        let h = rest (above lane some apart) in
        let z = (equal_test lane (base + 0 + 1)).1 (λ e. apart (omega (arith, e))) in
        let o = each 0 a refl in
        let s = sum_by-cons f a rows in
        omega (arith, h, z, o, s)

-- each request of a script waits once in its lane
pub rows_wait_once : (script : Requests) (rows : List LaneRow) (lanes : ℕ) → length rows ≡ lanes → ((k : ℕ) (row : LaneRow) → slice_get rows k ≡ Some row → queue_in row ≡ queue_of (k + 1) 0 script) → All (λ (asked : ℕ × Request). (0 < asked.0) × (asked.0 ≤ lanes)) script
    → (place : ℕ) → place < length script → times_waiting place rows ≡ 1
rows_wait_once script rows lanes many all of place inside =
    let a = some_at script place inside in
    let in_lanes = all_at (λ (asked : ℕ × Request). (0 < asked.0) × (asked.0 ≤ lanes)) script place a.0 of a.1 in
    let low = in_lanes.0 in
    let high = in_lanes.1 in
    let at : place ≡ 0 + place = omega arith in
    one_of_lanes (λ (r : LaneRow). times_in place (queue_in r)) rows 0 a.0.0 low (omega (arith, high, many)) (λ k row there. ap (times_in place) (all k row there) ∙ (ap (λ (n : ℕ). times_in n (queue_of (k + 1) 0 script)) at ∙ queue_times (k + 1) 0 script place a.0 a.1 ∙ ap (λ (n : ℕ). one_if (a.0.0 == n)) (let e : k + 1 ≡ 0 + k + 1 = omega arith in e)))
