-- A storage file that a run calls taken is claimed by the task of a lane, so the store has it as taken.
use Rattle.std.proofs.Common.{◌≡◌, ◌<◌, ◌≤◌, ◌+◌, ◌-◌, ◌==◌, ◌&&◌, ℕ, zero, suc, Bool, true, false, cond, List, [], ◌∷◌, map, length, Option, Some, None, refl, sym, ◌∙◌, ap, arith, inl, inr}
use Rattle.std.specs.Prelude.{◌⊎◌, ◌||◌, Contains, filter, is_none, not, slice_get}
use Rattle.std.specs.List.{list_any}
use Rattle.std.proofs.lemmas.List.Sums.{sum_by-cons}
use Rattle.std.proofs.lemmas.Option.{slice_get_within}
use Rattle.mdbox_base.specs.declared.replies.Reply.{Reply}
use Rattle.mdbox_base.specs.declared.requests.Request.{Request}
use Rattle.model_lists.specs.Lists.{Lists}
use Rattle.list_machine.specs.Run.{RunEvent, Run, own_events, reply_of}
use Rattle.journal.specs.Found.{gave_back, is_taken, took_file}
use Rattle.journal.specs.Journal.{Broken, HasReply, JournalStep, Requests}
use Rattle.task_steps.specs.Step.{Seen}
use Rattle.storage_files.specs.Files.{is_emptied_in, is_taken_in}
use Rattle.store_core.specs.Value.{StoreValue}
use Rattle.task_claims.specs.Claims.{AddsUp, Claims, Emptied, Taken, Thing, one_if, total_claims}
use Rattle.serving.specs.Accounts.{lane_claims}
use Rattle.serving.specs.Lanes.{AreBehind, IsInTurn, LaneStands, LaneValue, said_by}
use Rattle.serving.specs.Serving.{HaveLanes, IsServing}
use Rattle.serving.specs.Taken.{ClaimsTaken, IsInUse}
use Rattle.serving.proofs.LaneLemmas.{first_or_behind, none_waits, one_some}
use Rattle.serving.proofs.ServingLemmas.{all_at, some_at}

-- ---- lists

-- what passes a test somewhere
pub found_at : {X : Type 0} → (test : X → Bool) (xs : List X) → list_any test xs ≡ true → (n : ℕ) × (x : X) × (slice_get xs n ≡ Some x) × (test x ≡ true)
found_at test [] e = absurd (let z : false ≡ true = e in cc z)
found_at {X} test (a ∷ more) e = by_test (test a) refl (found_at test more)
  where
    or_false : (t u : Bool) → t ≡ false → (t || u) ≡ true → u ≡ true
    or_false true u z h = absurd (let k : true ≡ false = z in cc k)
    or_false false u z h = h

    by_test : (t : Bool) → test a ≡ t → (list_any test more ≡ true → (n : ℕ) × (x : X) × (slice_get more n ≡ Some x) × (test x ≡ true)) → (n : ℕ) × (x : X) × (slice_get (a ∷ more) n ≡ Some x) × (test x ≡ true)
    by_test true t rest = (0, a, refl, t)
    by_test false t rest = let r = rest (or_false (test a) (list_any test more) t e) in (suc r.0, r.1, r.2, r.3)

-- and among those that pass another one
pub any_kept : {X : Type 0} → (keep test : X → Bool) (xs : List X) (n : ℕ) (x : X) → slice_get xs n ≡ Some x → keep x ≡ true → test x ≡ true → list_any test (filter keep xs) ≡ true
any_kept keep test [] n x there k t = absurd (let z : None ≡ Some x = there in cc z)
any_kept {X} keep test (a ∷ more) zero x there k t = kept (one_some a x there)
  where
    kept : a ≡ x → list_any test (filter keep (a ∷ more)) ≡ true
    kept same =
        let first : list_any test (filter keep (a ∷ more)) ≡ list_any test (a ∷ filter keep more) = ap (λ (b : Bool). list_any test (cond b (a ∷ filter keep more) (filter keep more))) (ap keep same ∙ k) in
        let second : list_any test (a ∷ filter keep more) ≡ true = ap (λ (b : Bool). b || list_any test (filter keep more)) (ap test same ∙ t) in
        first ∙ second
any_kept keep test (a ∷ more) (suc n) x there k t = by_keep (keep a) refl (any_kept keep test more n x there k t)
  where
    more_true : (b : Bool) → list_any test (filter keep more) ≡ true → (b || list_any test (filter keep more)) ≡ true
    more_true true h = refl
    more_true false h = h

    by_keep : (b : Bool) → keep a ≡ b → list_any test (filter keep more) ≡ true → list_any test (filter keep (a ∷ more)) ≡ true
    by_keep true e h = ap (λ (b : Bool). list_any test (cond b (a ∷ filter keep more) (filter keep more))) e ∙ more_true (test a) h
    by_keep false e h = ap (λ (b : Bool). list_any test (cond b (a ∷ filter keep more) (filter keep more))) e ∙ h

-- ---- requests of a lane that have an event

has_some : (file : ℕ) (own : List RunEvent) → list_any (took_file file) own ≡ true → own ≡ [] → ⊥
has_some file own any none = let z : false ≡ true = sym (ap (list_any (took_file file)) none) ∙ any in cc z

pub waiting_none : (script : Requests) (run : Run) (lane place : ℕ) (rest : List ℕ) (i : ℕ) → AreBehind script run lane place rest → Contains rest i → own_events i run ≡ []
waiting_none script run lane place [] i behind is = absurd (none_waits i is)
waiting_none script run lane place (next ∷ rest) i behind is = by_case (waiting_none script run lane next rest i behind.3) (first_or_behind next rest i is)
  where
    by_case : (Contains rest i → own_events i run ≡ []) → (i ≡ next) ⊎ Contains rest i → own_events i run ≡ []
    by_case more (inl e) = ap (λ (n : ℕ). own_events n run) e ∙ behind.2
    by_case more (inr is) = more is

-- ---- claims

pub one_of_all : {T : Type 0} → (claims : T → Claims) (lanes : List (LaneValue T)) (k : ℕ) (value : LaneValue T) (thing : Thing) → slice_get lanes k ≡ Some value → lane_claims claims value thing ≤ total_claims (map (lane_claims claims) lanes) thing
one_of_all claims [] k value thing there = absurd (let z : None ≡ Some value = there in cc z)
one_of_all claims (a ∷ more) zero value thing there =
    let same : lane_claims claims a thing ≡ lane_claims claims value thing = ap (λ (v : LaneValue _). lane_claims claims v thing) (one_some a value there) in
    let s = sum_by-cons (λ (c : Claims). c thing) (lane_claims claims a) (map (lane_claims claims) more) in
    omega (arith, same, s)
one_of_all claims (a ∷ more) (suc k) value thing there =
    let h = one_of_all claims more k value thing there in
    let s = sum_by-cons (λ (c : Claims). c thing) (lane_claims claims a) (map (lane_claims claims) more) in
    omega (arith, h, s)

is_one : (t : Bool) → 1 ≤ one_if t → t ≡ true
is_one true le = refl
is_one false le = absurd (let h : 1 ≤ 0 = le in omega (arith, h))

-- ---- a file that the run calls taken

pub taken_in_use : {T D : Type 0} → (At : T → Request → Run → ℕ → List Reply → Type 0) (claims : T → Claims) (start : Lists) (script : Requests) (run : Run) (journal : List JournalStep) (broken : Broken) (replies : List (Option Reply)) (began now : Seen) (lanes : List (LaneValue T)) (store : StoreValue D) (file : ℕ)
    → IsServing At start script run journal broken replies began now lanes → HaveLanes script lanes → AddsUp store (map (lane_claims claims) lanes)
    → ((task : T) (request : Request) (place : ℕ) (said : List Reply) → At task request run place said → ClaimsTaken (own_events place run) (claims task)) → 1 ≤ file → is_taken run file ≡ true → IsInUse store file
taken_in_use {T} At claims start script run journal broken replies began now lanes store file s have adds take numbered is = by_event (found_at _ run.events is)
  where
    by_claim : (k : ℕ) (value : LaneValue T) (task : T) → slice_get lanes k ≡ Some value → value.task ≡ Some task → (1 ≤ claims task (Taken file)) ⊎ (1 ≤ claims task (Emptied file)) → IsInUse store file
    by_claim k value task there has (inl c) =
        let mine : lane_claims claims value (Taken file) ≡ claims task (Taken file) = ap (λ (o : Option T). lane_claims claims (record value { task = o }) (Taken file)) has in
        let all = one_of_all claims lanes k value (Taken file) there in
        let a = adds (Taken file) in
        inl (is_one (is_taken_in file store.files.files) (omega (arith, c, mine, all, a)))
    by_claim k value task there has (inr c) =
        let mine : lane_claims claims value (Emptied file) ≡ claims task (Emptied file) = ap (λ (o : Option T). lane_claims claims (record value { task = o }) (Emptied file)) has in
        let all = one_of_all claims lanes k value (Emptied file) there in
        let a = adds (Emptied file) in
        inr (is_one (is_emptied_in file store.files.files) (omega (arith, c, mine, all, a)))

    by_task : (k : ℕ) (value : LaneValue T) (task : Option T) (request : Request) (place : ℕ) → slice_get lanes k ≡ Some value → value.task ≡ task → LaneStands At task request run place (said_by journal place) → list_any (took_file file) (own_events place run) ≡ true → gave_back file (own_events place run) ≡ false → IsInUse store file
    by_task k value None request place there has stands took kept = absurd (has_some file (own_events place run) took stands.0)
    by_task k value (Some task) request place there has stands took kept = by_claim k value task there has (take task request place (said_by journal place) stands file numbered took kept)

    by_first : (k : ℕ) (value : LaneValue T) (first : ℕ) (rest : List ℕ) (place : ℕ) → slice_get lanes k ≡ Some value → IsInTurn At script run journal replies (k + 1) value (first ∷ rest) → (place ≡ first) ⊎ Contains rest place → list_any (took_file file) (own_events place run) ≡ true → gave_back file (own_events place run) ≡ false → IsInUse store file
    by_first k value first rest place there turn (inl e) took kept =
        by_task k value value.task turn.0.0 first there refl turn.0.2 (ap (λ (n : ℕ). list_any (took_file file) (own_events n run)) (sym e) ∙ took) (ap (λ (n : ℕ). gave_back file (own_events n run)) (sym e) ∙ kept)
    by_first k value first rest place there turn (inr waits) took kept = absurd (has_some file (own_events place run) took (waiting_none script run (k + 1) first rest place turn.1 waits))

    by_queue : (k : ℕ) (value : LaneValue T) (queue : List ℕ) (place : ℕ) → slice_get lanes k ≡ Some value → IsInTurn At script run journal replies (k + 1) value queue → Contains queue place → list_any (took_file file) (own_events place run) ≡ true → gave_back file (own_events place run) ≡ false → IsInUse store file
    by_queue k value [] place there turn waits took kept = absurd (none_waits place waits)
    by_queue k value (first ∷ rest) place there turn waits took kept = by_first k value first rest place there turn (first_or_behind first rest place waits) took kept

    by_each : (k : ℕ) (value : LaneValue T) (place : ℕ) (asked : ℕ × Request) → slice_get lanes k ≡ Some value → slice_get script place ≡ Some asked → Contains value.queue place ⊎ ((given : Reply) × HasReply replies place given) → reply_of place run ≡ None → list_any (took_file file) (own_events place run) ≡ true → gave_back file (own_events place run) ≡ false → IsInUse store file
    by_each k value place asked there request (inl waits) none took kept = by_queue k value value.queue place there (s.lanes_at k value there).in_turn waits took kept
    by_each k value place asked there request (inr given) none took kept =
        let e = sym (s.given.1 place (slice_get_within script place asked request)) ∙ given.1 in
        absurd (let z : Some None ≡ Some (Some given.0) = ap (λ (o : Option Reply). Some o) (sym none) ∙ e in cc z)

    ands : (a b c : Bool) → (a && (b && not c)) ≡ true → (a ≡ true) × (b ≡ true) × (c ≡ false)
    ands true true false e = (refl, refl, refl)
    ands true true true e = absurd (let z : false ≡ true = e in cc z)
    ands true false c e = absurd (let z : false ≡ true = e in cc z)
    ands false b c e = absurd (let z : false ≡ true = e in cc z)

    none_of : (o : Option Reply) → is_none o ≡ true → o ≡ None
    none_of None e = refl
    none_of (Some given) e = absurd (let z : false ≡ true = e in cc z)

    same_number : (n : ℕ) → (n == n) ≡ true
    same_number n = grind arith

    by_event : (n : ℕ) × (event : RunEvent) × (slice_get run.events n ≡ Some event) × ((took_file file event && (is_none (reply_of event.request run) && not (gave_back file (own_events event.request run)))) ≡ true) → IsInUse store file
    by_event found =
        let event = found.1 in
        let a = ands (took_file file event) (is_none (reply_of event.request run)) (gave_back file (own_events event.request run)) found.3 in
        let next = s.follows.next found.0 event found.2 in
        let number = all_at (λ (q : ℕ × Request). (0 < q.0) × (q.0 ≤ length lanes)) script event.request next.asked have next.request_is in
        let low = number.0 in
        let high = number.1 in
        let lane = some_at lanes (next.asked.0 - 1) (omega (arith, low, high)) in
        let each = (s.lanes_at (next.asked.0 - 1) lane.0 lane.1).each event.request next.asked next.request_is (omega (arith, low)) in
        by_each (next.asked.0 - 1) lane.0 event.request next.asked lane.1 next.request_is each (none_of (reply_of event.request run) a.1)
        (any_kept (λ (e : RunEvent). e.request == event.request) (took_file file) run.events found.0 event found.2 (same_number event.request) a.0) a.2
