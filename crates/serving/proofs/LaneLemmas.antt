-- Where lanes stand as an event more is made, whatever tasks they have.
use Rattle.std.proofs.Common.{◌≡◌, ◌<◌, ◌≤◌, ◌+◌, ◌==◌, ℕ, zero, suc, Bool, true, false, List, [], ◌∷◌, ◌++◌, map, slice_set, Option, Some, None, refl, sym, ◌∙◌, ap, subst, arith, inl, inr}
use Rattle.std.specs.Prelude.{◌≢◌, ◌⊎◌, Contains, length, slice_get, slice_index_or}
use Rattle.std.proofs.lemmas.Grind.{common_steps}
use Rattle.std.proofs.lemmas.Option.{slice_get_within}
use Rattle.mdbox_base.specs.declared.replies.Reply.{Reply}
use Rattle.mdbox_base.specs.declared.requests.Request.{Request}
use Rattle.model_lists.specs.Lists.{Lists}
use Rattle.list_machine.specs.Run.{RunEvent, Run, and_then, reply_of}
use Rattle.journal.specs.Journal.{Requests, JournalStep, HasReply}
use Rattle.journal.specs.Makes.{AreReplies, steps_made}
use Rattle.journal.proofs.OwnEventLemmas.{own_other}
use Rattle.task_steps.specs.Serves.{IsTurn}
use Rattle.task_steps.specs.Step.{GivesNew, and_told}
use Rattle.task_steps.proofs.ReplyingLemmas.{answers_more, steps_other, turn_of_other, turn_stays}
use Rattle.serving.specs.Lanes.{AreBehind, IsInTurn, LaneAt, LaneStands, LaneValue, LanesAt, lane_behind, said_by, tail_of}
use Rattle.serving.specs.Standing.{OthersStandOn, StandsOn}

-- ---- lists

pub get_set_same : {X : Type 0} → (xs : List X) (k : ℕ) (x y : X) → slice_get xs k ≡ Some y → slice_get (slice_set xs k x) k ≡ Some x
get_set_same [] k x y e = absurd (let z : None ≡ Some y = e in cc z)
get_set_same (a ∷ more) zero x y e = refl
get_set_same (a ∷ more) (suc k) x y e = get_set_same more k x y e

pub get_set_other : {X : Type 0} → (xs : List X) (k j : ℕ) (x : X) → k ≢ j → slice_get (slice_set xs k x) j ≡ slice_get xs j
get_set_other [] k j x other = refl
get_set_other (a ∷ more) zero zero x other = absurd (other refl)
get_set_other (a ∷ more) zero (suc j) x other = refl
get_set_other (a ∷ more) (suc k) zero x other = refl
get_set_other (a ∷ more) (suc k) (suc j) x other = get_set_other more k j x (λ e. other (ap suc e))

pub one_some : {X : Type 0} → (a b : X) → Some a ≡ Some b → a ≡ b
one_some a b e = cc e

pub one_pair : (a b : ℕ × Request) → Some a ≡ Some b → a ≡ b
one_pair a b e = cc e

some_none : {X : Type 0} → (a : X) → Some a ≡ None → ⊥
some_none a e = cc e

pub differ_test : (a b : ℕ) → a ≢ b → (a == b) ≡ false
differ_test a b other = by_test (a == b) refl
  where
    by_test : (t : Bool) → (a == b) ≡ t → (a == b) ≡ false
    by_test true k = absurd (other (let h : a ≡ b = grind (arith, common_steps, k) in h))
    by_test false k = k

-- ---- the requests of a lane

-- what waits in a queue is the first of it, or waits behind that
first_at : (place : ℕ) (rest : List ℕ) (i k : ℕ) → k < length (place ∷ rest) → slice_index_or (place ∷ rest) k i ≡ i → (i ≡ place) ⊎ Contains rest i
first_at place rest i zero within is = inl (sym is)
first_at place rest i (suc k) within is = inr (k, omega (arith, within), is)

pub first_or_behind : (place : ℕ) (rest : List ℕ) (i : ℕ) → Contains (place ∷ rest) i → (i ≡ place) ⊎ Contains rest i
first_or_behind place rest i is = first_at place rest i is.0 is.1 is.2

pub waits_in : (place : ℕ) (rest : List ℕ) (i : ℕ) → (i ≡ place) ⊎ Contains rest i → Contains (place ∷ rest) i
waits_in place rest i (inl e) = (0, omega arith, sym e)
waits_in place rest i (inr is) = (suc is.0, (let h = is.1 in omega (arith, h)), is.2)

pub none_waits : (i : ℕ) → Contains [] i → ⊥
none_waits i is = let h : is.0 < 0 = is.1 in omega (arith, h)

waits_or : {P : Type 0} → (place : ℕ) (rest : List ℕ) (i : ℕ) → Contains (place ∷ rest) i ⊎ P → ((i ≡ place) ⊎ Contains rest i) ⊎ P
waits_or place rest i (inl is) = inl (first_or_behind place rest i is)
waits_or place rest i (inr p) = inr p

behind_all : (script : Requests) (run : Run) (lane place : ℕ) (rest : List ℕ) (i : ℕ) → AreBehind script run lane place rest → Contains rest i → place < i
behind_all script run lane place [] i behind is = absurd (none_waits i is)
behind_all script run lane place (next ∷ rest) i behind is = by_case (behind_all script run lane next rest i behind.3) (first_or_behind next rest i is)
  where
    by_case : (Contains rest i → next < i) → (i ≡ next) ⊎ Contains rest i → place < i
    by_case more (inl e) = let l = behind.0 in omega (arith, l, e)
    by_case more (inr is) = let l = behind.0 in let m = more is in omega (arith, l, m)

-- the turn of the first
pub first_turn : {T : Type 0} → (At : T → Request → Run → ℕ → List Reply → Type 0) (script : Requests) (run : Run) (journal : List JournalStep) (replies : List (Option Reply)) (lane place : ℕ) (rest : List ℕ) (value : LaneValue T) (request : Request)
    → LaneAt At script run journal replies lane value → value.queue ≡ place ∷ rest → slice_get script place ≡ Some (lane, request)
    → IsTurn script journal replies lane place request × LaneStands At value.task request run place (said_by journal place) × AreBehind script run lane place rest
first_turn At script run journal replies lane place rest value request l queue asked =
    let t = subst (λ (ps : List ℕ). IsInTurn At script run journal replies lane value ps) queue l.in_turn in
    let same : t.0.0 ≡ request = ap (λ (q : ℕ × Request). q.1) (one_pair (lane, t.0.0) (lane, request) (sym t.0.1.asked ∙ asked)) in (
      subst (λ (q : Request). IsTurn script journal replies lane place q) same t.0.1,
      subst (λ (q : Request). LaneStands At value.task q run place (said_by journal place)) same t.0.2,
      t.1,
    )

-- none that waits stands before the first
pub none_earlier : {T : Type 0} → (At : T → Request → Run → ℕ → List Reply → Type 0) (script : Requests) (run : Run) (journal : List JournalStep) (replies : List (Option Reply)) (lane place : ℕ) (rest : List ℕ) (value : LaneValue T) → value.queue ≡ place ∷ rest → AreBehind script run lane place rest
    → LaneAt At script run journal replies lane value → AreReplies script run replies → (i : ℕ) (q : ℕ × Request) → i < place → slice_get script i ≡ Some q → q.0 ≡ lane → reply_of i run ≢ None
none_earlier At script run journal replies lane place rest value queue behind at given i q less asked on none =
    by_case (waits_or place rest i (subst (λ (ps : List ℕ). Contains ps i ⊎ ((r : Reply) × HasReply replies i r)) queue (at.each i q asked on)))
  where
    by_case : ((i ≡ place) ⊎ Contains rest i) ⊎ ((r : Reply) × HasReply replies i r) → ⊥
    by_case (inl (inl e)) = omega (arith, less, e)
    by_case (inl (inr is)) = let m = behind_all script run lane place rest i behind is in omega (arith, less, m)
    by_case (inr h) =
        let r = given.1 i (slice_get_within script i q asked) in
        let k : Some h.0 ≡ reply_of i run = one_some (Some h.0) (reply_of i run) (sym h.1 ∙ r) in
        some_none h.0 (k ∙ none)

-- ---- an event of a lane, to those behind its request

behind_on : (script : Requests) (run : Run) (event : RunEvent) (lane place : ℕ) (rest : List ℕ) (own : ℕ) → event.request ≡ own → own ≤ place → AreBehind script run lane place rest → AreBehind script (and_then run event) lane place rest
behind_on script run event lane place [] own at le behind = tt
behind_on script run event lane place (next ∷ rest) own at le behind = (
  behind.0,
  behind.1,
  own_other next run event (differ_test event.request next (λ e. let l = behind.0 in omega (arith, e, at, le, l))) ∙ behind.2,
  behind_on script run event lane next rest own at (let l = behind.0 in omega (arith, l, le)) behind.3,
)

-- and to those of another lane
elsewhere : (script : Requests) (own other : ℕ) (lane their : ℕ) (request second : Request) → slice_get script own ≡ Some (lane, request) → slice_get script other ≡ Some (their, second) → lane ≢ their → own ≢ other
elsewhere script own other lane their request second mine theirs apart e =
    apart (ap (λ (q : ℕ × Request). q.0) (one_pair (lane, request) (their, second) (sym mine ∙ (ap (λ (n : ℕ). slice_get script n) e ∙ theirs))))

behind_other : (script : Requests) (run : Run) (event : RunEvent) (lane place : ℕ) (rest : List ℕ) (own mine : ℕ) (request : Request) → event.request ≡ own → slice_get script own ≡ Some (mine, request) → mine ≢ lane → AreBehind script run lane place rest → AreBehind script (and_then run event) lane place rest
behind_other script run event lane place [] own mine request at asked apart behind = tt
behind_other script run event lane place (next ∷ rest) own mine request at asked apart behind = (
  behind.0,
  behind.1,
  own_other next run event (differ_test event.request next (λ e. elsewhere script own next mine lane request behind.1.0 asked behind.1.1 apart (sym at ∙ e))) ∙ behind.2,
  behind_other script run event lane next rest own mine request at asked apart behind.3,
)

-- ---- the next request takes its turn

pub turn_passes : (script : Requests) (journal : List JournalStep) (replies after : List (Option Reply)) (lane place next : ℕ) (request following : Request) → IsTurn script journal replies lane place request → place < next → slice_get script next ≡ Some (lane, following)
    → ((j : ℕ) → place ≢ j → slice_get after j ≡ slice_get replies j) → IsTurn script journal after lane next following
turn_passes script journal replies after lane place next request following turn less asked others = record {
  asked = asked;
  unanswered = others next (λ e. omega (arith, e, less)) ∙ (turn.later next (lane, following) less asked refl).1;
  first = λ i d lt on. let l = turn.first i d lt on in omega (arith, l, less);
  later = λ j q lt is on.
      let l : place < j = omega (arith, less, lt) in
      ((turn.later j q l is on).0, others j (λ e. omega (arith, e, l)) ∙ (turn.later j q l is on).1);
}

-- ---- the lane whose event it was

abbrev pub journal_behind : Run → Request → List JournalStep → RunEvent → Option Reply → Lists → List JournalStep
journal_behind run request journal event answer left = journal ++ steps_made run request event answer left

-- its request goes on
pub own_more : {T : Type 0} → (Was Is : T → Request → Run → ℕ → List Reply → Type 0) (script : Requests) (run : Run) (journal : List JournalStep) (replies : List (Option Reply)) (lane place : ℕ) (rest : List ℕ) (value : LaneValue T) (request : Request) (task : T) (event : RunEvent) (answer : Option Reply) (left : Lists)
    → value.queue ≡ place ∷ rest → IsTurn script journal replies lane place request → AreBehind script run lane place rest → event.request ≡ place → Is task request (and_then run event) place (and_told (said_by journal place) answer) → LaneAt Was script run journal replies lane value
    → LaneAt Is script (and_then run event) (journal_behind run request journal event answer left) replies lane (lane_behind None task value)
own_more Was Is script run journal replies lane place rest value request task event answer left queue turn behind at stands l = record {
  in_turn = subst (λ (ps : List ℕ). IsInTurn Is script (and_then run event) (journal_behind run request journal event answer left) replies lane (lane_behind None task value) ps) (sym queue) (
    (request, turn_stays script run journal replies lane place request event answer left at turn, subst (λ (said : List Reply). Is task request (and_then run event) place said) (sym (answers_more run request journal event answer left place at)) stands),
    behind_on script run event lane place rest place at (omega arith) behind,
  );
  each = l.each;
}

-- it is answered
pub own_done : {T : Type 0} → (Was Is : T → Request → Run → ℕ → List Reply → Type 0) (script : Requests) (run : Run) (journal : List JournalStep) (replies after : List (Option Reply)) (lane place : ℕ) (rest : List ℕ) (value : LaneValue T) (request : Request) (task : T) (event : RunEvent) (answer : Option Reply) (left : Lists) (given : Reply)
    → value.queue ≡ place ∷ rest → IsTurn script journal replies lane place request → AreBehind script run lane place rest → event.request ≡ place → HasReply after place given → ((j : ℕ) → place ≢ j → slice_get after j ≡ slice_get replies j) → LaneAt Was script run journal replies lane value
    → LaneAt Is script (and_then run event) (journal_behind run request journal event answer left) after lane (lane_behind (Some given) task value)
own_done Was Is script run journal replies after lane place rest value request task event answer left given queue turn behind at here others l =
    subst (λ (ps : List ℕ). LaneAt Is script (and_then run event) (journal_behind run request journal event answer left) after lane (record { queue = tail_of ps; task = None })) (sym queue) (record {
      in_turn = next_turn rest behind;
      each = λ i asked is on. by_place i (waits_or place rest i (subst (λ (ps : List ℕ). Contains ps i ⊎ ((r : Reply) × HasReply replies i r)) queue (l.each i asked is on))) (cases i);
    })
  where
    cases : (i : ℕ) → (place ≡ i) ⊎ (place ≢ i)
    cases i = by_test (place == i) refl
      where
        by_test : (t : Bool) → (place == i) ≡ t → (place ≡ i) ⊎ (place ≢ i)
        by_test true e = inl (grind (arith, common_steps, e))
        by_test false e = inr (λ k. absurd (let h : false ≡ true = sym e ∙ same k in cc h))
          where
            same : place ≡ i → (place == i) ≡ true
            same k = grind (arith, common_steps, k)

    by_place : (i : ℕ) → ((i ≡ place) ⊎ Contains rest i) ⊎ ((r : Reply) × HasReply replies i r) → (place ≡ i) ⊎ (place ≢ i) → Contains rest i ⊎ ((r : Reply) × HasReply after i r)
    by_place i h (inl e) = inr (given, ap (λ (n : ℕ). slice_get after n) (sym e) ∙ here)
    by_place i (inl (inl e)) (inr other) = absurd (other (sym e))
    by_place i (inl (inr is)) (inr other) = inl is
    by_place i (inr h) (inr other) = inr (h.0, others i other ∙ h.1)

    next_turn : (ps : List ℕ) → AreBehind script run lane place ps → IsInTurn Is script (and_then run event) (journal_behind run request journal event answer left) after lane (record { queue = ps; task = None }) ps
    next_turn [] b = refl
    next_turn (next ∷ more) b = (
      (
        b.1.0,
        turn_passes script (journal_behind run request journal event answer left) replies after lane place next request b.1.0 (turn_stays script run journal replies lane place request event answer left at turn) b.0 b.1.1 others,
        (
          own_other next run event (differ_test event.request next (λ e. let k = b.0 in omega (arith, e, at, k))) ∙ b.2,
          ap (map (λ (s : JournalStep). s.answer)) (steps_other run request journal event answer left next (λ e. let k = b.0 in omega (arith, e, at, k)) ∙ (turn.later next (lane, b.1.0) b.0 b.1.1 refl).0),
        ),
      ),
      behind_on script run event lane next more place at (let k = b.0 in omega (arith, k)) b.3,
    )

-- ---- another lane

other_lane : {T : Type 0} → (Was Is : T → Request → Run → ℕ → List Reply → Type 0) (script : Requests) (run : Run) (journal : List JournalStep) (replies after : List (Option Reply)) (mine lane place : ℕ) (value : LaneValue T) (request : Request) (event : RunEvent) (answer : Option Reply) (left : Lists)
    → event.lane ≡ mine → event.request ≡ place → slice_get script place ≡ Some (mine, request) → mine ≢ lane → GivesNew run event → ((j : ℕ) → place ≢ j → slice_get after j ≡ slice_get replies j) → LaneAt Was script run journal replies lane value → ((task : T) (q : Request) → value.task ≡ Some task → StandsOn (Was task q) (Is task q))
    → LaneAt Is script (and_then run event) (journal_behind run request journal event answer left) after lane value
other_lane Was Is script run journal replies after mine lane place value request event answer left on at asked apart gives others l stays = record {
  in_turn = by_queue value.queue l.in_turn;
  each = λ i q is k. by_case i (l.each i q is k) (elsewhere script place i mine lane request q.1 asked (is ∙ ap (λ (n : ℕ). Some (n, q.1)) k) apart);
}
  where
    by_case : (i : ℕ) → Contains value.queue i ⊎ ((r : Reply) × HasReply replies i r) → place ≢ i → Contains value.queue i ⊎ ((r : Reply) × HasReply after i r)
    by_case i (inl is) other = inl is
    by_case i (inr h) other = inr (h.0, others i other ∙ h.1)

    stands : (task : Option _) (q : Request) (their : ℕ) → value.task ≡ task → event.request ≢ their → LaneStands Was task q run their (said_by journal their) → LaneStands Is task q (and_then run event) their (said_by (journal_behind run request journal event answer left) their)
    stands None q their has other s = (own_other their run event (differ_test event.request their other) ∙ s.0, ap (map (λ (x : JournalStep). x.answer)) (steps_other run request journal event answer left their other) ∙ s.1)
    stands (Some task) q their has other s =
        subst (λ (said : List Reply). Is task q (and_then run event) their said) (sym (ap (map (λ (x : JournalStep). x.answer)) (steps_other run request journal event answer left their other)))
        (stays task q has run their (said_by journal their) event other gives s)

    by_queue : (ps : List ℕ) → IsInTurn Was script run journal replies lane value ps → IsInTurn Is script (and_then run event) (journal_behind run request journal event answer left) after lane value ps
    by_queue [] s = s
    by_queue (first ∷ rest) s =
        let other : event.request ≢ first = λ e. elsewhere script place first mine lane request s.0.0 asked s.0.1.asked apart (sym at ∙ e) in (
          (
            s.0.0,
            turn_of_other script run journal replies after lane first s.0.0 event answer left place request at (λ e. apart (sym on ∙ e)) (asked ∙ ap (λ (n : ℕ). Some (n, request)) (sym on)) others s.0.1,
            stands value.task s.0.0 first refl other s.0.2,
          ),
          behind_other script run event lane first rest place mine request at asked apart s.1,
        )

-- ---- all lanes

pub nat_cases : (k j : ℕ) → (k ≡ j) ⊎ (k ≢ j)
nat_cases k j = by_test (k == j) refl
  where
    same : k ≡ j → (k == j) ≡ true
    same e = grind (arith, common_steps, e)

    by_test : (t : Bool) → (k == j) ≡ t → (k ≡ j) ⊎ (k ≢ j)
    by_test true e = inl (grind (arith, common_steps, e))
    by_test false e = inr (λ h. absurd (let z : false ≡ true = sym e ∙ same h in cc z))

pub lanes_on : {T : Type 0} → (Was Is : T → Request → Run → ℕ → List Reply → Type 0) (script : Requests) (run : Run) (journal : List JournalStep) (replies after : List (Option Reply)) (lanes : List (LaneValue T)) (k place : ℕ) (was now : LaneValue T) (request : Request) (event : RunEvent) (answer : Option Reply) (left : Lists)
    → slice_get lanes k ≡ Some was → event.lane ≡ k + 1 → event.request ≡ place → slice_get script place ≡ Some (k + 1, request) → GivesNew run event → ((j : ℕ) → place ≢ j → slice_get after j ≡ slice_get replies j)
    → LaneAt Is script (and_then run event) (journal_behind run request journal event answer left) after (k + 1) now → LanesAt Was script run journal replies lanes → OthersStandOn Was Is lanes k
    → LanesAt Is script (and_then run event) (journal_behind run request journal event answer left) after (slice_set lanes k now)
lanes_on Was Is script run journal replies after lanes k place was now request event answer left there on at asked gives others own all stays j value is = by_case (nat_cases k j)
  where
    by_case : (k ≡ j) ⊎ (k ≢ j) → LaneAt Is script (and_then run event) (journal_behind run request journal event answer left) after (j + 1) value
    by_case (inl e) =
        let same : now ≡ value = one_some now value (sym (get_set_same lanes k now was there) ∙ (ap (λ (n : ℕ). slice_get (slice_set lanes k now) n) e ∙ is)) in
        subst (λ (n : ℕ). LaneAt Is script (and_then run event) (journal_behind run request journal event answer left) after (n + 1) value) e
        (subst (λ (v : LaneValue _). LaneAt Is script (and_then run event) (journal_behind run request journal event answer left) after (k + 1) v) same own)
    by_case (inr other) =
        other_lane Was Is script run journal replies after (k + 1) (j + 1) place value request event answer left on at asked (λ e. other (let h = e in omega (arith, h))) gives others
        (all j value (sym (get_set_other lanes k j now other) ∙ is))
        (stays j value other (sym (get_set_other lanes k j now other) ∙ is))
