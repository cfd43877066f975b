-- The run of a copy whose message is expunged between its two events is whole: each event is the next of its lane, each
-- step has its entry, the journal and the replies are legal.
use Rattle.std.specs.Prelude.{All, ◌≡◌, ◌⊎◌, ◌≤◌, ◌<◌, ℕ, zero, suc, true, false, List, [], ◌∷◌, map, slice_get, Option, Some, None, AllPairs, Contains, refl}
use Rattle.std.proofs.Common.{sym, ◌∙◌, ap, arith, subst, lit≤, lit<}
use Rattle.std.proofs.lemmas.List.Elements.{All-nil, All-cons, All-from_recursion}
use Rattle.std.specs.List.{AllByRecursion}
use Rattle.std.proofs.lemmas.List.Kept.{AllPairs-cons}
use Rattle.disk_model.specs.Disk.{Faults}
use Rattle.mdbox_base.specs.declared.requests.Request.{Request}
use Rattle.mdbox_base.specs.declared.replies.Refusal.TheVariants as refusal
use Rattle.mdbox_base.specs.declared.replies.Reply.{Reply}
use Rattle.mdbox_base.specs.declared.replies.Reply.TheVariants as reply
use Rattle.model_octets.proofs.PairLemmas.{pairs_nil}
use Rattle.list_machine.specs.Run.{RunEvent, before, map_of, drawn_of, reply_of}
use Rattle.journal.specs.Journal.{JournalStep, halves_of, steps_of, IsFirstPart, StandInOrder, HasReply, IsReplyOf, AreReplied, IsLegal, no_broken}
use Rattle.journal.specs.Events.{makes_step, IsNextEvent}
use Rattle.journal.specs.Found.{AgreesWithRun, AgreeWithRun}
use Rattle.journal.specs.Makes.{lists_before, StaysStopped, IsServed}
use Rattle.journal.specs.JournalExamples.{nothing_around, raise_event, remove_event, lower_event, refused_event, back_event, second_run, second_script, lists_saved, second_journal, step_expunged, step_refused}
use Rattle.journal.proofs.BrokenLemmas.{none_failed}
use Rattle.journal.proofs.ExampleLemmas.{second_is_legal}
use Rattle.journal.proofs.EventExampleLemmas.{copying, expunging, raises_count, removes_message, lowers_count, refuses_message, gives_back}

same_some : {X : Type 0} → (x y : X) → Some x ≡ Some y → x ≡ y
same_some x y e = cc e

none_some : {X : Type 0} → (x : X) → None ≡ Some x → ⊥
none_some x e = cc e

none_at : {X : Type 0} → (n : ℕ) (x : X) → slice_get [] n ≡ Some x → ⊥
none_at zero x e = cc e
none_at (suc n) x e = cc e

-- ---- events

-- the n-th event is the next of its lane
abbrev IsNext : ℕ → RunEvent → Type 0
IsNext n event = IsNextEvent nothing_around nothing_around second_script (before n second_run) (lists_before lists_saved second_journal n) event

no_other_lane : (i : ℕ) (q : ℕ × Request) → i < 1 → slice_get second_script i ≡ Some q → q.0 ≡ 2 → ⊥
no_other_lane zero q lt e lane = let k = ap (λ (x : ℕ × Request). x.0) (same_some (1, copying) q e) in omega (arith, k, lane)
no_other_lane (suc i) q lt e lane = omega (arith, lt)

first_next : IsNext 0 raise_event
first_next = record { asked = (1, copying); request_is = refl; lane_is = refl; earlier = λ i q lt e lane. absurd (omega (arith, lt)); unanswered = refl; is_event = raises_count }

second_next : IsNext 1 remove_event
second_next = record { asked = (2, expunging); request_is = refl; lane_is = refl; earlier = λ i q lt e lane. absurd (no_other_lane i q lt e lane); unanswered = refl; is_event = removes_message }

third_next : IsNext 2 lower_event
third_next = record { asked = (2, expunging); request_is = refl; lane_is = refl; earlier = λ i q lt e lane. absurd (no_other_lane i q lt e lane); unanswered = refl; is_event = lowers_count }

fourth_next : IsNext 3 refused_event
fourth_next = record { asked = (1, copying); request_is = refl; lane_is = refl; earlier = λ i q lt e lane. absurd (omega (arith, lt)); unanswered = refl; is_event = refuses_message }

fifth_next : IsNext 4 back_event
fifth_next = record { asked = (1, copying); request_is = refl; lane_is = refl; earlier = λ i q lt e lane. absurd (omega (arith, lt)); unanswered = refl; is_event = gives_back }

all_next : (n : ℕ) (event : RunEvent) → slice_get second_run.events n ≡ Some event → IsNext n event
all_next zero event e = subst (λ (x : RunEvent). IsNext 0 x) (same_some raise_event event e) first_next
all_next (suc zero) event e = subst (λ (x : RunEvent). IsNext 1 x) (same_some remove_event event e) second_next
all_next (suc (suc zero)) event e = subst (λ (x : RunEvent). IsNext 2 x) (same_some lower_event event e) third_next
all_next (suc (suc (suc zero))) event e = subst (λ (x : RunEvent). IsNext 3 x) (same_some refused_event event e) fourth_next
all_next (suc (suc (suc (suc zero)))) event e = subst (λ (x : RunEvent). IsNext 4 x) (same_some back_event event e) fifth_next
all_next (suc (suc (suc (suc (suc n))))) event e = absurd (none_some event e)

-- ---- steps

abbrev IsToldAt : ℕ → RunEvent → Type 0
IsToldAt n event = (asked : ℕ × Request) → slice_get second_script event.request ≡ Some asked → makes_step asked.1 event.part event.refused ≡ true → (step : JournalStep) × Contains second_journal step × (step.event ≡ n)

untold : (event : RunEvent) (asked given : ℕ × Request) → Some given ≡ Some asked → makes_step given.1 event.part event.refused ≡ false → makes_step asked.1 event.part event.refused ≡ true → ⊥
untold event asked given e none is =
    let k : false ≡ true = sym none ∙ (ap (λ (q : ℕ × Request). makes_step q.1 event.part event.refused) (same_some given asked e) ∙ is) in
    cc k

all_told : (n : ℕ) (event : RunEvent) → slice_get second_run.events n ≡ Some event → IsToldAt n event
all_told zero event e = subst (λ (x : RunEvent). IsToldAt 0 x) (same_some raise_event event e) (λ asked q is. absurd (untold raise_event asked (1, copying) q refl is))
all_told (suc zero) event e = subst (λ (x : RunEvent). IsToldAt 1 x) (same_some remove_event event e) (λ asked q is. (step_expunged, (0, lit< tt, refl), refl))
all_told (suc (suc zero)) event e = subst (λ (x : RunEvent). IsToldAt 2 x) (same_some lower_event event e) (λ asked q is. absurd (untold lower_event asked (2, expunging) q refl is))
all_told (suc (suc (suc zero))) event e = subst (λ (x : RunEvent). IsToldAt 3 x) (same_some refused_event event e) (λ asked q is. (step_refused, (1, lit< tt, refl), refl))
all_told (suc (suc (suc (suc zero)))) event e = subst (λ (x : RunEvent). IsToldAt 4 x) (same_some back_event event e) (λ asked q is. absurd (untold back_event asked (1, copying) q refl is))
all_told (suc (suc (suc (suc (suc n))))) event e = absurd (none_some event e)

-- a copy and an expunge find nothing of files and instances
all_found : AgreeWithRun (λ n. nothing_around) second_script second_run
all_found n event asked e q = by_request event.request q
  where
    by_request : (i : ℕ) → slice_get second_script i ≡ Some asked → AgreesWithRun nothing_around (before n second_run) asked.1 event event.part
    by_request zero k = subst (λ (x : ℕ × Request). AgreesWithRun nothing_around (before n second_run) x.1 event event.part) (same_some (1, copying) asked k) tt
    by_request (suc zero) k = subst (λ (x : ℕ × Request). AgreesWithRun nothing_around (before n second_run) x.1 event event.part) (same_some (2, expunging) asked k) tt
    by_request (suc (suc i)) k = absurd (none_some asked k)

-- ---- replies

abbrev second_replies : List (Option Reply)
second_replies = Some (reply.Refused refusal.NoMessage) ∷ Some reply.Done ∷ []

all_given : (i : ℕ) → i < 2 → slice_get second_replies i ≡ Some (reply_of i second_run)
all_given zero lt = refl
all_given (suc zero) lt = refl
all_given (suc (suc i)) lt = absurd (omega (arith, lt))

abbrev Follows : ℕ → (ℕ × Request) → Reply → Type 0
Follows i asked given = IsReplyOf asked.1 (map (λ step. step.answer) (steps_of i second_journal)) given

all_replied : AreReplied second_script second_journal second_replies
all_replied zero asked given q r =
    subst (λ (x : ℕ × Request). Follows 0 x given) (same_some (1, copying) asked q)
    (subst (λ (x : Reply). Follows 0 (1, copying) x) (same_some (reply.Refused refusal.NoMessage) given (same_some (Some (reply.Refused refusal.NoMessage)) (Some given) r)) refl)
all_replied (suc zero) asked given q r =
    subst (λ (x : ℕ × Request). Follows 1 x given) (same_some (2, expunging) asked q)
    (subst (λ (x : Reply). Follows 1 (2, expunging) x) (same_some reply.Done given (same_some (Some reply.Done) (Some given) r)) refl)
all_replied (suc (suc i)) asked given q r = absurd (none_some asked q)

not_refused : reply.Refused refusal.NoMessage ≡ reply.Refused refusal.Stopped → ⊥
not_refused e = cc e

not_done : reply.Done ≡ reply.Refused refusal.Stopped → ⊥
not_done e = cc e

none_stopped : (i : ℕ) → HasReply second_replies i (reply.Refused refusal.Stopped) → ⊥
none_stopped zero e = not_refused (same_some _ _ (same_some _ _ e))
none_stopped (suc zero) e = not_done (same_some _ _ (same_some _ _ e))
none_stopped (suc (suc i)) e = none_some (Some (reply.Refused refusal.Stopped)) e

-- ---- order

abbrev HasHalves : ℕ → (ℕ × Request) → Type 0
HasHalves i asked = IsFirstPart (map (λ step. step.half) (steps_of i second_journal)) (halves_of asked.1)

all_halves : (i : ℕ) (asked : ℕ × Request) → slice_get second_script i ≡ Some asked → HasHalves i asked
all_halves zero asked q = subst (λ (x : ℕ × Request). HasHalves 0 x) (same_some (1, copying) asked q) ([], refl)
all_halves (suc zero) asked q = subst (λ (x : ℕ × Request). HasHalves 1 x) (same_some (2, expunging) asked q) ([], refl)
all_halves (suc (suc i)) asked q = absurd (none_some asked q)

pair : {X : Type 0} → (R : X → X → Type 0) (x y : X) → R x y → AllPairs R (x ∷ y ∷ [])
pair R x y h = AllPairs-cons R x (y ∷ []) (All-cons (R x) y [] h (All-nil (R x))) (AllPairs-cons R y [] (All-nil (R y)) (pairs_nil R))

in_order : StandInOrder second_script second_journal
in_order = record {
  events = pair (λ (a b : JournalStep). a.event < b.event) step_expunged step_refused (lit< tt);
  halves = all_halves;
  lanes = pair (λ (a b : JournalStep). a.lane ≡ b.lane → a.request ≤ b.request) step_expunged step_refused (λ e. absurd (omega (arith, e)));
}

abbrev NotAfter : RunEvent → RunEvent → Type 0
NotAfter a b = a.moment ≤ b.moment

moments_rise : AllPairs NotAfter second_run.events
moments_rise =
    push raise_event (remove_event ∷ lower_event ∷ refused_event ∷ back_event ∷ []) (lit≤ tt, (lit≤ tt, (lit≤ tt, (lit≤ tt, tt))))
    (push remove_event (lower_event ∷ refused_event ∷ back_event ∷ []) (lit≤ tt, (lit≤ tt, (lit≤ tt, tt)))
    (push lower_event (refused_event ∷ back_event ∷ []) (lit≤ tt, (lit≤ tt, tt)) (push refused_event (back_event ∷ []) (lit≤ tt, tt) (push back_event [] tt (pairs_nil NotAfter)))))
  where
    push : (e : RunEvent) (es : List RunEvent) → AllByRecursion (NotAfter e) es → AllPairs NotAfter es → AllPairs NotAfter (e ∷ es)
    push e es h p = AllPairs-cons NotAfter e es (All-from_recursion (NotAfter e) es h) p

second_legal : (now : Faults) → IsLegal lists_saved second_script second_run second_journal second_replies now now
second_legal now = record {
  moments = moments_rise;
  steps = second_is_legal;
  order = in_order;
  replied = all_replied;
  causes = record {
    reads = omega arith;
    changes = λ i h. absurd (none_stopped i h);
    unfinished = λ i h. absurd (none_stopped i h);
    later = λ i j first second h. absurd (none_stopped i h);
  };
}

abbrev StopsBehind : RunEvent → RunEvent → Type 0
StopsBehind a b = a.refused ≡ Some refusal.Stopped → (b.refused ≡ Some refusal.Stopped) ⊎ (b.refused ≡ Some refusal.NoMemory)

not_refused_so : Some refusal.NoMessage ≡ Some refusal.Stopped → ⊥
not_refused_so e = cc e

never_stopped : StaysStopped second_run.events
never_stopped =
    push raise_event (remove_event ∷ lower_event ∷ refused_event ∷ back_event ∷ []) (λ e. none_some refusal.Stopped e)
    (push remove_event (lower_event ∷ refused_event ∷ back_event ∷ []) (λ e. none_some refusal.Stopped e)
    (push lower_event (refused_event ∷ back_event ∷ []) (λ e. none_some refusal.Stopped e) (push refused_event (back_event ∷ []) not_refused_so (push back_event [] (λ e. none_some refusal.Stopped e) (pairs_nil StopsBehind)))))
  where
    push : (e : RunEvent) (es : List RunEvent) → (e.refused ≡ Some refusal.Stopped → ⊥) → AllPairs StopsBehind es → AllPairs StopsBehind (e ∷ es)
    push e es never p = AllPairs-cons StopsBehind e es (all_behind es) p
      where
        all_behind : (xs : List RunEvent) → All (StopsBehind e) xs
        all_behind [] = All-nil _
        all_behind (x ∷ xs) = All-cons (StopsBehind e) x xs (λ s. absurd (never s)) (all_behind xs)

pub second_is_served : (now : Faults) → IsServed lists_saved second_script second_run second_journal no_broken (Some (reply.Refused refusal.NoMessage) ∷ Some reply.Done ∷ []) now now (map_of (before 0 second_run)) (map_of second_run) (drawn_of second_run) 16
second_is_served now = record {
  around = λ n. nothing_around;
  after = λ n. nothing_around;
  begins = record { map_is = refl; drawn_is = refl; moments = All-nil _ };
  next = all_next;
  found = all_found;
  told = λ n event asked e. all_told n event e asked;
  given = (refl, all_given);
  legal = second_legal now;
  broken_is = tt;
  of_failure = none_failed second_run;
  would = λ n event asked around e. absurd (none_at n event e);
  stays_stopped = never_stopped;
  come = record { map_is = refl; drawn_is = refl; moments = All-from_recursion (λ (e : RunEvent). e.moment ≤ 16) second_run.events (lit≤ tt, (lit≤ tt, (lit≤ tt, (lit≤ tt, (lit≤ tt, tt))))) };
}
