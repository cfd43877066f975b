-- The lanes of a script, made from its last request to its first.
use Rattle.std.proofs.Common.{◌≡◌, ◌<◌, ◌≤◌, ◌+◌, ◌-◌, ℕ, zero, suc, Bool, cond, List, [], ◌∷◌, ◌++◌, map, slice_set, Option, Some, None, refl, sym, ◌∙◌, ap, subst, arith, inl, inr}
use Rattle.std.specs.Prelude.{◌≢◌, ◌⊎◌, All, length, replicate, slice_get}
use Rattle.std.proofs.lemmas.List.{append_assoc, length-append, length-set, length-replicate}
use Rattle.std.proofs.lemmas.List.Elements.{All-cons, All-head, All-nil, All-tail, All-same, All-weaker, All-map}
use Rattle.std.proofs.lemmas.Option.{slice_get_within}
use Rattle.std.proofs.lemmas.Bool.{eq-eqb, ne_eqb}
use Rattle.attach_detach.specs.declared.message.Prepared.{Prepared}
use Rattle.mdbox_base.specs.declared.replies.Reply.{Reply}
use Rattle.mdbox_base.specs.declared.requests.Request.{Request}
use Rattle.journal.specs.Journal.{Requests}
use Rattle.serving.specs.Lanes.{queue_of}
use Rattle.serving.proofs.LaneLemmas.{get_set_other, get_set_same, nat_cases, one_some}
use Rattle.serving.proofs.ServingLemmas.{all_at}
use Rattle.lane_tasks.specs.Tasks.{BeginsTask}
use Rattle.lanes.proofs.WorldLemmas.{lane_back}
use Rattle.lanes.proofs.GoingLemmas.{row_cases}
use Rattle.lanes.specs.Going.{WaitsWithTask}
use Rattle.lanes.specs.Rows.{LaneRow, queue_in}
use Rattle.lanes.specs.Worlds.{AreFreshParts, AreGiven, AreOfLanes, ArePartsOf, AreRowsFrom, BeginsSome, HasItsMessage, IsRowFrom, empty_row, queued_in}
use Rattle.lanes.specs.declared.lane.Queued.{Queued}
use Rattle.lanes.proofs.WaitingLemmas.{rows_wait_once}

-- ---- lists

abbrev pub no_reply : Option Reply
no_reply = None

pub replies_many : (n : ℕ) → length (replicate n no_reply) ≡ n
replies_many n = length-replicate n no_reply

pub replicated : {X : Type 0} → (n k : ℕ) (x y : X) → slice_get (replicate n x) k ≡ Some y → y ≡ x
replicated zero k x y there = absurd (let z : None ≡ Some y = there in cc z)
replicated (suc n) zero x y there = sym (one_some x y there)
replicated (suc n) (suc k) x y there = replicated n k x y there

middle_get : {X : Type 0} → (xs : List X) (x : X) (rest : List X) → slice_get (xs ++ x ∷ rest) (length xs) ≡ Some x
middle_get [] x rest = refl
middle_get (a ∷ xs) x rest = middle_get xs x rest

-- ---- what requests are given

pub no_items : {X : Type 0} → (xs : List X) → length xs ≡ 0 → xs ≡ []
no_items [] none = refl
no_items (x ∷ xs) none = absurd (let h : suc (length xs) ≡ 0 = none in omega (arith, h))

none_given : (given : List (Option Prepared)) (x : Option Prepared) → AreGiven [] (given ++ x ∷ []) → ⊥
none_given [] x are = are
none_given (g ∷ given) x are = are

pub some_given : (requests : Requests) (q : ℕ × Request) → AreGiven (requests ++ q ∷ []) [] → ⊥
some_given [] q are = are
some_given (a ∷ requests) q are = are

pub given_last : (requests : Requests) (q : ℕ × Request) (given : List (Option Prepared)) (x : Option Prepared) → AreGiven (requests ++ q ∷ []) (given ++ x ∷ []) → AreGiven requests given × HasItsMessage q.1 x
given_last [] q [] x are = (tt, are.0)
given_last [] q (g ∷ given) x are = absurd (none_given given x are.1)
given_last (a ∷ requests) q [] x are = absurd (some_given requests q are.1)
given_last (a ∷ requests) q (g ∷ given) x are = let r = given_last requests q given x are.1 in ((are.0, r.0), r.1)

-- ---- a lane

pub empty_from : (script : Requests) (lane place : ℕ) → IsRowFrom script lane place [] empty_row
empty_from script lane place = record { all = refl; begin = All-nil (WaitsWithTask script lane); alone = λ none. refl }

places_of : (row : LaneRow) (q : Queued) → queue_in (record { current = Some q; waiting = queued_in row }) ≡ q.place ∷ queue_in row
places_of row q = row_cases (λ r. queue_in (record { current = Some q; waiting = queued_in r }) ≡ q.place ∷ queue_in r) (λ waiting. refl) (λ first waiting. refl) row

-- the lane of a request has it in front
own_from : (script part : Requests) (lane place : ℕ) (request : Request) (row : LaneRow) (q : Queued) → q.place ≡ place → slice_get script place ≡ Some (lane, request) → BeginsTask request q.task → IsRowFrom script lane (place + 1) part row
    → IsRowFrom script lane place ((lane, request) ∷ part) (record { current = Some q; waiting = queued_in row })
own_from script part lane place request row q at there begins from = record {
  all = places_of row q ∙ (ap (λ (n : ℕ). n ∷ queue_in row) at ∙ (ap (λ (ps : List ℕ). place ∷ ps) from.all ∙ sym (ap (λ (b : Bool). cond b (place ∷ queue_of lane (place + 1) part) (queue_of lane (place + 1) part)) (eq-eqb lane lane refl))));
  begin = All-cons (WaitsWithTask script lane) q (queued_in row) (request, (ap (λ (n : ℕ). slice_get script n) at ∙ there), begins) from.begin;
  alone = λ none. absurd (let z : Some q ≡ None = none in cc z);
}

-- every other lane is as it was
other_from : (script part : Requests) (lane other place : ℕ) (request : Request) (row : LaneRow) → lane ≢ other → IsRowFrom script other (place + 1) part row → IsRowFrom script other place ((lane, request) ∷ part) row
other_from script part lane other place request row apart from = record {
  all = from.all ∙ sym (ap (λ (b : Bool). cond b (place ∷ queue_of other (place + 1) part) (queue_of other (place + 1) part)) (ne_eqb lane other apart));
  begin = from.begin;
  alone = from.alone;
}

-- ---- all lanes

pub rows_empty : (script : Requests) (lanes place : ℕ) → AreRowsFrom script lanes place [] (replicate lanes empty_row)
rows_empty script lanes place = (length-replicate lanes empty_row, λ k row there. subst (λ (r : LaneRow). IsRowFrom script (k + 1) place [] r) (sym (replicated lanes k empty_row row there)) (empty_from script (k + 1) place))

pub rows_more : (script part : Requests) (lanes k place : ℕ) (request : Request) (rows : List LaneRow) (row : LaneRow) (q : Queued) → slice_get rows k ≡ Some row → q.place ≡ place → slice_get script place ≡ Some (k + 1, request) → BeginsTask request q.task → AreRowsFrom script lanes (place + 1) part rows
    → AreRowsFrom script lanes place ((k + 1, request) ∷ part) (slice_set rows k (record { current = Some q; waiting = queued_in row }))
rows_more script part lanes k place request rows row q here at there begins from = (length-set rows k (record { current = Some q; waiting = queued_in row }) ∙ from.0, λ j other is. by_case j other is (nat_cases k j))
  where
    now : LaneRow
    now = record { current = Some q; waiting = queued_in row }

    by_case : (j : ℕ) (other : LaneRow) → slice_get (slice_set rows k now) j ≡ Some other → (k ≡ j) ⊎ (k ≢ j) → IsRowFrom script (j + 1) place ((k + 1, request) ∷ part) other
    by_case j other is (inl e) =
        let same : now ≡ other = one_some now other (sym (get_set_same rows k now row here) ∙ (ap (λ (n : ℕ). slice_get (slice_set rows k now) n) e ∙ is)) in
        subst (λ (n : ℕ). IsRowFrom script (n + 1) place ((k + 1, request) ∷ part) other) e (subst (λ (r : LaneRow). IsRowFrom script (k + 1) place ((k + 1, request) ∷ part) r) same (own_from script part (k + 1) place request row q at there begins (from.1 k row here)))
    by_case j other is (inr apart) = other_from script part (k + 1) (j + 1) place request other (λ e. apart (omega (arith, e))) (from.1 j other (sym (get_set_other rows k j now apart) ∙ is))

-- the requests behind those that are left, with their lanes
abbrev pub Behind : Requests → ℕ → Requests → List LaneRow → Type 0
Behind script lanes left rows = (part : Requests) × (script ≡ left ++ part) × AreRowsFrom script lanes (length left) part rows

-- the last of those that are left is one of the script's
pub last_asked : (script : Requests) (lanes : ℕ) (old new : Requests) (q : ℕ × Request) (rows : List LaneRow) → Behind script lanes old rows → old ≡ new ++ q ∷ [] → slice_get script (length new) ≡ Some q
last_asked script lanes old new q rows behind is =
    ap (λ (s : Requests). slice_get s (length new)) (behind.1 ∙ (ap (λ (r : Requests). r ++ behind.0) is ∙ append_assoc new (q ∷ []) behind.0)) ∙ middle_get new q behind.0

pub last_lane : (script : Requests) (lanes : ℕ) (old new : Requests) (q : ℕ × Request) (rows : List LaneRow) → AreOfLanes lanes script → Behind script lanes old rows → old ≡ new ++ q ∷ [] → (0 < q.0) × (q.0 ≤ lanes)
last_lane script lanes old new q rows of behind is = all_at (λ (asked : ℕ × Request). (0 < asked.0) × (asked.0 ≤ lanes)) script (length new) q of (last_asked script lanes old new q rows behind is)

pub behind_more : (script : Requests) (lanes : ℕ) (old new : Requests) (lane : ℕ) (request : Request) (rows : List LaneRow) (row : LaneRow) (q : Queued) → Behind script lanes old rows → old ≡ new ++ (lane, request) ∷ [] → 1 ≤ lane → slice_get rows (lane - 1) ≡ Some row → q.place ≡ length new → BeginsTask request q.task
    → Behind script lanes new (slice_set rows (lane - 1) (record { current = Some q; waiting = queued_in row }))
behind_more script lanes old new lane request rows row q behind is some here at begins = (
  (lane, request) ∷ behind.0,
  behind.1 ∙ (ap (λ (r : Requests). r ++ behind.0) is ∙ append_assoc new ((lane, request) ∷ []) behind.0),
  subst (λ (n : ℕ). AreRowsFrom script lanes (length new) ((n, request) ∷ behind.0) (slice_set rows (lane - 1) (record { current = Some q; waiting = queued_in row }))) (sym (lane_back lane some))
      (rows_more script behind.0 lanes (lane - 1) (length new) request rows row q here at (subst (λ (n : ℕ). slice_get script (length new) ≡ Some (n, request)) (lane_back lane some) (last_asked script lanes old new (lane, request) rows behind is)) begins
      (subst (λ (n : ℕ). AreRowsFrom script lanes n behind.0 rows) longer behind.2)),
)
  where
    longer : length old ≡ length new + 1
    longer = ap (λ (r : Requests). length r) is ∙ length-append new ((lane, request) ∷ [])

pub none_left : (script : Requests) (lanes : ℕ) (left : Requests) (rows : List LaneRow) → Behind script lanes left rows → length left ≡ 0 → AreRowsFrom script lanes 0 script rows
none_left script lanes left rows behind none =
    subst (λ (n : ℕ). AreRowsFrom script lanes n script rows) none
    (subst (λ (part : Requests). AreRowsFrom script lanes (length left) part rows) (sym (behind.1 ∙ ap (λ (r : Requests). r ++ behind.0) (no_items left none))) behind.2)

-- ---- the parts

begins_in : (script : Requests) (lane : ℕ) (qs : List Queued) → All (WaitsWithTask script lane) qs → All BeginsSome qs × All (λ q. q.place < length script) qs
begins_in script lane qs all = (
  All-weaker (WaitsWithTask script lane) BeginsSome (λ q waits. (waits.0, waits.2)) qs all,
  All-weaker (WaitsWithTask script lane) (λ (q : Queued). q.place < length script) (λ q waits. slice_get_within script q.place (lane, waits.0) waits.1) qs all,
)

places_in : (n : ℕ) (qs : List Queued) → All (λ q. q.place < n) qs → All (λ place. place < n) (map (λ (q : Queued). q.place) qs)
places_in n = All-map (λ (place : ℕ). place < n) (λ (q : Queued). q.place)

queue_places : (row : LaneRow) → map (λ (q : Queued). q.place) (queued_in row) ≡ queue_in row
queue_places = row_cases (λ row. map (λ (q : Queued). q.place) (queued_in row) ≡ queue_in row) (λ waiting. refl) (λ first waiting. refl)

-- what holds of all its requests holds of those behind the first
pub behind_all : (P : Queued → Type 0) (row : LaneRow) → (row.current ≡ None → row.waiting ≡ []) → All P (queued_in row) → All P row.waiting
behind_all P = row_cases (λ row. (row.current ≡ None → row.waiting ≡ []) → All P (queued_in row) → All P row.waiting) (λ waiting alone all. All-same P waiting [] (alone refl) (All-nil P)) (λ first waiting alone all. All-tail P first waiting all)

pub parts_fresh : (script : Requests) (lanes requests : ℕ) (rows : List LaneRow) → AreRowsFrom script lanes 0 script rows → AreOfLanes lanes script → requests ≡ length script → length script ≤ 100000 → AreFreshParts (record { rows = rows; requests = requests })
parts_fresh script lanes requests rows from of same few = record {
  few = omega (arith, same, few);
  begin = λ k row there. (begins_in script (k + 1) (queued_in row) (from.1 k row there).begin).0;
  places = λ k row there. subst (λ (n : ℕ). All (λ place. place < n) (queue_in row)) (sym same) (subst (λ (ps : List ℕ). All (λ place. place < length script) ps) (queue_places row) (places_in (length script) (queued_in row) (begins_in script (k + 1) (queued_in row) (from.1 k row there).begin).1));
  once = λ place inside. rows_wait_once script rows lanes from.0 (λ k row there. (from.1 k row there).all) of place (omega (arith, inside, same));
  alone = λ k row there. (from.1 k row there).alone;
}

pub parts_of : (script : Requests) (lanes requests : ℕ) (rows : List LaneRow) → AreRowsFrom script lanes 0 script rows → requests ≡ length script → ArePartsOf script lanes (record { rows = rows; requests = requests })
parts_of script lanes requests rows from same = record {
  rows = λ k row there. let f = from.1 k row there in record {
    all = f.all;
    first = λ q is. All-head (WaitsWithTask script (k + 1)) q row.waiting (subst (λ (o : Option Queued). All (WaitsWithTask script (k + 1)) (queued_in (record row { current = o }))) is f.begin);
    behind = behind_all (WaitsWithTask script (k + 1)) row f.alone f.begin;
  };
  many = from.0;
  requests = same;
}
