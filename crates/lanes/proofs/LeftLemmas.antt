-- What is left to do in a world falls with each event.
use Rattle.std.proofs.Common.{◌≡◌, ◌<◌, ◌≤◌, ◌+◌, ℕ, zero, suc, Bool, true, false, cond, List, [], ◌∷◌, slice_set, Option, Some, None, refl, sym, ◌∙◌, ap, subst, arith}
use Rattle.std.specs.Prelude.{◌≢◌, All, length, slice_get, sum_by}
use Rattle.std.proofs.lemmas.List.Elements.{All-cons, All-head, All-tail, All-nil, All-weaker}
use Rattle.std.proofs.lemmas.List.Sums.{sum_by-cons}
use Rattle.disk_model.specs.Disk.{Faults, History}
use Rattle.mdbox_base.specs.declared.replies.Refusal.TheVariants as refusal
use Rattle.mdbox_base.specs.declared.replies.Reply.{Reply}
use Rattle.mdbox_base.specs.declared.replies.Reply.TheVariants as reply
use Rattle.serving.specs.Accounts.{IsReadyLane}
use Rattle.serving.proofs.LaneLemmas.{one_some}
use Rattle.store_core.specs.Value.{StoreValue}
use Rattle.task_claims.specs.Leaving.{LeavesOthers}
use Rattle.task_steps.specs.Step.{ended_by}
use Rattle.lane_tasks.specs.Tasks.{IsReadyTask, claims_at, work_left}
use Rattle.lane_tasks.specs.declared.task.Task.{Task}
use Rattle.lane_tasks.proofs.StandLemmas.{begins_ready}
use Rattle.lane_tasks.proofs.WorkLemmas.{work_stays}
use Rattle.lanes.specs.Rows.{LaneRow, after_event, lane_value}
use Rattle.lanes.specs.Worlds.{BeginsSome, IsSoundWorld, Works, WorldValue, left_in, queued_in, world_left}
use Rattle.lanes.specs.declared.lane.Queued.{Queued}
use Rattle.lanes.proofs.GoingLemmas.{more_by, value_at, row_cases}
use Rattle.lanes.proofs.SoundLemmas.{ran_then}

-- ---- sums

sums_less : {X : Type 0} → (f g : X → ℕ) (xs : List X) → ((j : ℕ) (x : X) → slice_get xs j ≡ Some x → g x ≤ f x) → sum_by g xs ≤ sum_by f xs
sums_less f g [] less = omega arith
sums_less f g (a ∷ xs) less =
    let h = sums_less f g xs (λ j x there. less (suc j) x there) in
    let one = less 0 a refl in
    let s = sum_by-cons f a xs in
    let t = sum_by-cons g a xs in
    omega (arith, h, one, s, t)

sums_set : {X : Type 0} → (f g : X → ℕ) (xs : List X) (k : ℕ) (x y : X) → slice_get xs k ≡ Some x → ((j : ℕ) (z : X) → k ≢ j → slice_get xs j ≡ Some z → g z ≤ f z) → sum_by g (slice_set xs k y) + f x ≤ sum_by f xs + g y
sums_set f g [] k x y there less = absurd (let z : None ≡ Some x = there in cc z)
sums_set f g (a ∷ xs) zero x y there less =
    let same : f a ≡ f x = ap f (one_some a x there) in
    let h = sums_less f g xs (λ j z at. less (suc j) z (λ e. let q : 0 ≡ suc j = e in absurd (omega (arith, q))) at) in
    let s = sum_by-cons f a xs in
    let t = sum_by-cons g y xs in
    omega (arith, same, h, s, t)
sums_set f g (a ∷ xs) (suc k) x y there less =
    let h = sums_set f g xs k x y there (λ j z apart at. less (suc j) z (λ e. apart (let q : suc k ≡ suc j = e in omega (arith, q))) at) in
    let one = less 0 a (λ e. let q : suc k ≡ 0 = e in absurd (omega (arith, q))) refl in
    let s = sum_by-cons f a xs in
    let t = sum_by-cons g a (slice_set xs k y) in
    omega (arith, h, one, s, t)

-- ---- tasks of a lane

all_begin : {D : Type 0} → (waiting : List Queued) (store : StoreValue D) (history : Option History) → All BeginsSome waiting → All (λ q. IsReadyTask q.task store history) waiting
all_begin waiting store history = All-weaker BeginsSome (λ (q : Queued). IsReadyTask q.task store history) (λ q begins. begins_ready begins.0 q.task store history begins.1) waiting

all_ready : {D : Type 0} → (row : LaneRow) (store : StoreValue D) (history : Option History) → All BeginsSome row.waiting → IsReadyLane IsReadyTask (lane_value row) store history → All (λ q. IsReadyTask q.task store history) (queued_in row)
all_ready row store history =
    row_cases (λ r. All BeginsSome r.waiting → IsReadyLane IsReadyTask (lane_value r) store history → All (λ q. IsReadyTask q.task store history) (queued_in r)) (λ waiting begin ready. All-nil (λ (q : Queued). IsReadyTask q.task store history))
    (λ first waiting begin ready. All-cons (λ (q : Queued). IsReadyTask q.task store history) first waiting (ready first.task refl) (all_begin waiting store history begin)) row

lefts_stay : {D : Type 0} → (mine : Task) (old new : StoreValue D) (before after : Option History) (qs : List Queued) → LeavesOthers (claims_at mine) old new before after → All (λ q. IsReadyTask q.task old before) qs → sum_by (λ (q : Queued). work_left q.task new) qs ≤ sum_by (λ (q : Queued). work_left q.task old) qs
lefts_stay mine old new before after [] leaves ready = omega arith
lefts_stay mine old new before after (q ∷ qs) leaves ready =
    let h = lefts_stay mine old new before after qs leaves (All-tail (λ (q : Queued). IsReadyTask q.task old before) q qs ready) in
    let one = work_stays q.task (claims_at mine) old new before after (All-head (λ (q : Queued). IsReadyTask q.task old before) q qs ready) leaves in
    let s = sum_by-cons (λ (q : Queued). work_left q.task old) q qs in
    let t = sum_by-cons (λ (q : Queued). work_left q.task new) q qs in
    omega (arith, h, one, s, t)

-- ---- the lane of an event

lane_queued : (ended : Option Reply) (first : Queued) (waiting : List Queued) → ended ≢ None → length (queued_in (after_event ended first waiting)) + 1 ≡ length (first ∷ waiting)
lane_queued None first waiting some = absurd (some refl)
lane_queued (Some given) first [] some = refl
lane_queued (Some given) first (next ∷ rest) some = omega arith

lane_more : (first next : Queued) (waiting : List Queued) → length (queued_in (after_event None next waiting)) ≡ length (first ∷ waiting)
lane_more first next waiting = omega arith

lane_done : {D : Type 0} → (given : Reply) (first : Queued) (waiting : List Queued) (store : StoreValue D) → left_in store (after_event (Some given) first waiting) ≡ sum_by (λ (q : Queued). work_left q.task store) waiting
lane_done given first [] store = refl
lane_done given first (next ∷ rest) store = refl

-- ---- all

pub left_falls : {D : Type 0} → (k : ℕ) (old new : WorldValue D) (before after : Option History) (first second : Faults) → Works k old new before after first second → IsSoundWorld before old → world_left new < world_left old
left_falls {D} k old new before after first second w s = by_stop new.store.stopped refl
  where
    many : WorldValue D → ℕ
    many world = sum_by (λ row. length (queued_in row)) world.rows

    queued : Queued
    queued = w.goes.queued

    next : Queued
    next = record w.goes.queued { task = w.goes.next }

    row_is : queued_in w.row ≡ queued ∷ w.row.waiting
    row_is = ap (λ (o : Option Queued). queued_in (record w.row { current = o })) w.goes.was

    -- as many are queued but for what changes in the lane
    counts : sum_by (λ row. length (queued_in row)) new.rows + length (queued_in w.row) ≤ sum_by (λ row. length (queued_in row)) old.rows + length (queued_in w.now)
    counts = subst (λ (rows : List LaneRow). sum_by (λ row. length (queued_in row)) rows + length (queued_in w.row) ≤ sum_by (λ row. length (queued_in row)) old.rows + length (queued_in w.now)) (sym w.rows_are)
        (sums_set (λ (row : LaneRow). length (queued_in row)) (λ (row : LaneRow). length (queued_in row)) old.rows k w.row w.now w.there (λ j z apart at. omega arith))

    fewer : ended_by w.event.ended ≢ None → many new + 1 ≤ many old
    fewer some =
        let c = counts in
        let l = lane_queued (ended_by w.event.ended) next w.row.waiting some in
        let n : length (queued_in w.now) ≡ length (queued_in (after_event (ended_by w.event.ended) next w.row.waiting)) = ap (λ (r : LaneRow). length (queued_in r)) w.goes.now_is in
        let r : length (queued_in w.row) ≡ length (queued ∷ w.row.waiting) = ap length row_is in
        omega (arith, c, l, n, r)

    as_many : ended_by w.event.ended ≡ None → many new ≤ many old
    as_many none =
        let c = counts in
        let n : length (queued_in w.now) ≡ length (next ∷ w.row.waiting) = ap (λ (r : LaneRow). length (queued_in r)) w.goes.now_is ∙ ap (λ (o : Option Reply). length (queued_in (after_event o next w.row.waiting))) none in
        let r : length (queued_in w.row) ≡ length (queued ∷ w.row.waiting) = ap length row_is in
        omega (arith, c, n, r)

    others : old.store.stopped ≡ false → new.store.stopped ≡ false → sum_by (left_in new.store) new.rows + left_in old.store w.row ≤ sum_by (left_in old.store) old.rows + left_in new.store w.now
    others ran runs = subst (λ (rows : List LaneRow). sum_by (left_in new.store) rows + left_in old.store w.row ≤ sum_by (left_in old.store) old.rows + left_in new.store w.now) (sym w.rows_are)
        (sums_set (left_in old.store) (left_in new.store) old.rows k w.row w.now w.there
        (λ j z apart at. lefts_stay queued.task old.store new.store before after (queued_in z) (w.goes.goes.leaves runs) (all_ready z old.store before (s.waiting j z at) ((s.accounts ran).ready j (lane_value z) (value_at old.rows j z at)))))

    behind : old.store.stopped ≡ false → new.store.stopped ≡ false → sum_by (λ (q : Queued). work_left q.task new.store) w.row.waiting ≤ sum_by (λ (q : Queued). work_left q.task old.store) w.row.waiting
    behind ran runs = lefts_stay queued.task old.store new.store before after w.row.waiting (w.goes.goes.leaves runs) (all_begin w.row.waiting old.store before (s.waiting k w.row w.there))

    old_lane : left_in old.store w.row ≡ work_left queued.task old.store + sum_by (λ (q : Queued). work_left q.task old.store) w.row.waiting
    old_lane = ap (sum_by (λ (q : Queued). work_left q.task old.store)) row_is ∙ sum_by-cons (λ (q : Queued). work_left q.task old.store) queued w.row.waiting

    running : (o : Option Reply) → ended_by w.event.ended ≡ o → old.store.stopped ≡ false → new.store.stopped ≡ false → many new + sum_by (left_in new.store) new.rows < many old + sum_by (left_in old.store) old.rows
    running None is ran runs =
        let m = as_many is in
        let o = others ran runs in
        let b = behind ran runs in
        let f = w.goes.goes.left (more_by w.event.ended is) in
        let n : left_in new.store w.now ≡ work_left w.goes.next new.store + sum_by (λ (q : Queued). work_left q.task new.store) w.row.waiting =
        ap (left_in new.store) w.goes.now_is ∙ (ap (λ (o : Option Reply). left_in new.store (after_event o next w.row.waiting)) is ∙ sum_by-cons (λ (q : Queued). work_left q.task new.store) next w.row.waiting) in
        let l = old_lane in
        omega (arith, m, o, b, f, n, l)
    running (Some given) is ran runs =
        let m = fewer (λ none. let z : Some given ≡ None = sym is ∙ none in absurd (cc z)) in
        let o = others ran runs in
        let b = behind ran runs in
        let n : left_in new.store w.now ≡ sum_by (λ (q : Queued). work_left q.task new.store) w.row.waiting =
        ap (left_in new.store) w.goes.now_is ∙ (ap (λ (o : Option Reply). left_in new.store (after_event o next w.row.waiting)) is ∙ lane_done given next w.row.waiting new.store) in
        let l = old_lane in
        omega (arith, m, o, b, n, l)

    by_stop : (b : Bool) → new.store.stopped ≡ b → world_left new < world_left old
    by_stop true is =
        let m = fewer (λ none. let e : ended_by w.event.ended ≡ Some (reply.Refused refusal.Stopped) = ap ended_by (w.goes.goes.stopped is) in let z : Some (reply.Refused refusal.Stopped) ≡ None = sym e ∙ none in absurd (cc z)) in
        let n : world_left new ≡ many new + 0 = ap (λ (b : Bool). many new + cond b 0 (1 + sum_by (left_in new.store) new.rows)) is in
        omega (arith, m, n)
    by_stop false is =
        let r = running (ended_by w.event.ended) refl (ran_then k old new before after first second w is) is in
        let n : world_left new ≡ many new + (1 + sum_by (left_in new.store) new.rows) = ap (λ (b : Bool). many new + cond b 0 (1 + sum_by (left_in new.store) new.rows)) is in
        let o : world_left old ≡ many old + (1 + sum_by (left_in old.store) old.rows) = ap (λ (b : Bool). many old + cond b 0 (1 + sum_by (left_in old.store) old.rows)) (ran_then k old new before after first second w is) in
        omega (arith, r, n, o)

-- the same, as a world's own call has it
pub left_from : {D : Type 0} → (k : ℕ) (was old new : WorldValue D) (before after : Option History) (first second : Faults) → was ≡ old → Works k was new before after first second → IsSoundWorld before was → world_left new < world_left old
left_from k was old new before after first second same w sound = subst (λ (v : WorldValue _). world_left new < world_left v) same (left_falls k was new before after first second w sound)
