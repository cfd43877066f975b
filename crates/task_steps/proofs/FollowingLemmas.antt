-- Each event is the next of its lane, and each step is told.
use Rattle.std.proofs.Common.{inl, inr, ◌⊎◌, ◌≡◌, ◌<◌, ◌==◌, ℕ, Bool, true, false, List, [], ◌∷◌, ◌++◌, Option, Some, None, refl, sym, ◌∙◌, ap, subst, arith, map}
use Rattle.std.specs.Prelude.{◌≢◌, is_some, length, slice_get, Contains, if◌then◌else◌}
use Rattle.std.proofs.lemmas.Grind.{common_steps}
use Rattle.std.proofs.lemmas.Option.{slice_get_within}
use Rattle.std.proofs.lemmas.List.Elements.{Contains-append_left, Contains-push}
use Rattle.mdbox_base.specs.declared.requests.Request.{Request}
use Rattle.mdbox_base.specs.declared.replies.Reply.{Reply}
use Rattle.model_lists.specs.Lists.{Lists}
use Rattle.list_machine.specs.Run.{RunEvent, Run, before, and_then, own_events, first_in, reply_of}
use Rattle.std.specs.Option.{option_or}
use Rattle.journal.specs.GoesOn.{RepliesAlso}
use Rattle.journal.proofs.OwnEventLemmas.{own_more, own_other}
use Rattle.journal.specs.Journal.{Requests, half_of, JournalStep, left_by, Broken, steps_of}
use Rattle.journal.specs.Events.{Around, IsNextEvent, makes_step}
use Rattle.journal.specs.Found.{AgreesWithRun}
use Rattle.journal.proofs.JournalLemmas.{before_more}
use Rattle.std.proofs.Math.Seq.{take-append_seam}
use Rattle.journal.specs.Makes.{steps_made, lists_before, AreNextEvents, AreReplies, AreTold}
use Rattle.journal.proofs.MakesLemmas.{run_goes_on, last_or_before}
use Rattle.mdbox_base.specs.declared.progress.Did.{Did}
use Rattle.task_steps.specs.Step.{Seen, DidEvent}
use Rattle.task_steps.specs.Serves.{Serves, IsTurn, Follows}

same_test : (a b : ℕ) → a ≡ b → (a == b) ≡ true
same_test a b e = grind (arith, common_steps, e)

less_test : (a b : ℕ) → a < b → (a == b) ≡ false
less_test a b e = grind (arith, common_steps, e)

abbrev with_last : ℕ → Around → (ℕ → Around) → ℕ → Around
with_last k a f n = if n == k then a else f n

last_is : (k : ℕ) (a : Around) (f : ℕ → Around) → with_last k a f k ≡ a
last_is k a f = ap (λ (b : Bool). if b then a else f k) (same_test k k refl)

earlier_is : (k : ℕ) (a : Around) (f : ℕ → Around) (n : ℕ) → n < k → with_last k a f n ≡ f n
earlier_is k a f n lt = ap (λ (b : Bool). if b then a else f n) (less_test n k lt)

one_some : {X : Type 0} → (a b : X) → Some a ≡ Some b → a ≡ b
one_some a b e = cc e

pub follows_on : (start : Lists) (script : Requests) (run : Run) (journal : List JournalStep) (broken : Broken) (replies : List (Option Reply)) (began now new : Seen) (around after : Around) (lane place : ℕ) (request : Request) (how : Did) (ended : Option Reply) → Serves start script run journal broken replies began now
    → IsTurn script journal replies lane place request → AreReplies script run replies → ((i : ℕ) (q : ℕ × Request) → i < place → slice_get script i ≡ Some q → q.0 ≡ lane → reply_of i run ≢ None) → place < length script
    → (d : DidEvent around after run lane place (map (λ s. s.answer) (steps_of place journal)) request (left_by start journal) now new how ended) → Follows start script run journal
    → Follows start script (and_then run d.makes.event) (journal ++ steps_made run request d.makes.event d.makes.answer d.left)
follows_on start script run journal broken replies began now new around after lane place request how ended s turn given earlier within d f = record {
  around = with_last (length run.events) around f.around;
  after = with_last (length run.events) after f.after;
  next = run_goes_on (with_last (length run.events) around f.around) (with_last (length run.events) after f.after) script start run journal request d.makes.event d.makes.answer d.left s.legal.steps old
      (subst (λ (a : Around). IsNextEvent a (with_last (length run.events) after f.after (length run.events)) script run (left_by start journal) d.makes.event) (sym (last_is (length run.events) around f.around))
      (subst (λ (a : Around). IsNextEvent around a script run (left_by start journal) d.makes.event) (sym (last_is (length run.events) after f.after)) is_next));
  found = λ n found asked e q. found_by n found asked q (last_or_before run d.makes.event found n e);
}
  where
    is_next : IsNextEvent around after script run (left_by start journal) d.makes.event
    is_next = record {
      asked = (lane, request);
      request_is = ap (λ (n : ℕ). slice_get script n) d.makes.request_is ∙ turn.asked;
      lane_is = d.makes.lane_is;
      earlier = λ i q lt e on. earlier i q (let k = d.makes.request_is in omega (arith, lt, k)) e on;
      unanswered = ap (λ (n : ℕ). reply_of n run) d.makes.request_is ∙ one_some (reply_of place run) None (sym (given.1 place within) ∙ turn.unanswered);
      is_event = d.makes.is_event;
    }

    now_found : AgreesWithRun (with_last (length run.events) around f.around (length run.events)) (before (length run.events) (and_then run d.makes.event)) request d.makes.event d.makes.event.part
    now_found = subst (λ (a : Around). AgreesWithRun a (before (length run.events) (and_then run d.makes.event)) request d.makes.event d.makes.event.part) (sym (last_is (length run.events) around f.around))
        (subst (λ (r : Run). AgreesWithRun around r request d.makes.event d.makes.event.part) (ap (λ (es : List RunEvent). record run { events = es }) (sym (take-append_seam run.events (d.makes.event ∷ [])))) d.found)

    found_by : (n : ℕ) (found : RunEvent) (asked : ℕ × Request) → slice_get script found.request ≡ Some asked → (slice_get run.events n ≡ Some found) ⊎ ((n ≡ length run.events) × (found ≡ d.makes.event))
        → AgreesWithRun (with_last (length run.events) around f.around n) (before n (and_then run d.makes.event)) asked.1 found found.part
    found_by n found asked q (inl there) =
        let lt = slice_get_within run.events n found there in
        subst (λ (a : Around). AgreesWithRun a (before n (and_then run d.makes.event)) asked.1 found found.part) (sym (earlier_is (length run.events) around f.around n lt))
        (subst (λ (r : Run). AgreesWithRun (f.around n) r asked.1 found found.part) (before_more run d.makes.event n (omega (arith, lt))) (f.found n found asked there q))
    found_by n found asked q (inr last) =
        let is : asked ≡ (lane, request) = one_some asked (lane, request) ((sym q ∙ ap (λ (x : RunEvent). slice_get script x.request) last.1) ∙ (ap (λ (k : ℕ). slice_get script k) d.makes.request_is ∙ turn.asked)) in
        subst (λ (k : ℕ). AgreesWithRun (with_last (length run.events) around f.around k) (before k (and_then run d.makes.event)) asked.1 found found.part) (sym last.0)
        (subst (λ (x : RunEvent). AgreesWithRun (with_last (length run.events) around f.around (length run.events)) (before (length run.events) (and_then run d.makes.event)) asked.1 x x.part) (sym last.1)
        (subst (λ (x : ℕ × Request). AgreesWithRun (with_last (length run.events) around f.around (length run.events)) (before (length run.events) (and_then run d.makes.event)) x.1 d.makes.event d.makes.event.part) (sym is) now_found))

    old : AreNextEvents (with_last (length run.events) around f.around) (with_last (length run.events) after f.after) script start run journal
    old = λ n event e.
        let lt = slice_get_within run.events n event e in
        subst (λ (a : Around). IsNextEvent a (with_last (length run.events) after f.after n) script (before n run) (lists_before start journal n) event) (sym (earlier_is (length run.events) around f.around n lt))
        (subst (λ (a : Around). IsNextEvent (f.around n) a script (before n run) (lists_before start journal n) event) (sym (earlier_is (length run.events) after f.after n lt)) (f.next n event e))

-- ---- replies by events

option_none : {X : Type 0} → (a b : Option X) → option_or a b ≡ None → (a ≡ None) × (b ≡ None)
option_none None b e = (refl, e)
option_none (Some x) b e = absurd (let k : Some x ≡ None = e in cc k)

first_last : {X Y : Type 0} → (f : X → Option Y) (xs : List X) (x : X) → first_in f xs ≡ None → first_in f (xs ++ x ∷ []) ≡ f x
first_last f [] x e = or_none (f x)
  where
    or_none : {Z : Type 0} → (o : Option Z) → option_or o None ≡ o
    or_none None = refl
    or_none (Some z) = refl
first_last f (y ∷ ys) x e = let n = option_none (f y) (first_in f ys) e in ap (λ (o : Option _). option_or o (first_in f (ys ++ x ∷ []))) n.0 ∙ first_last f ys x n.1

reply_now : (place : ℕ) (run : Run) (event : RunEvent) → event.request ≡ place → reply_of place run ≡ None → reply_of place (and_then run event) ≡ event.reply
reply_now place run event at none = ap (λ (es : List RunEvent). first_in (λ (e : RunEvent). e.reply) es) (own_more place run event (same_test event.request place at)) ∙ first_last (λ (e : RunEvent). e.reply) (own_events place run) event none

reply_else : (i : ℕ) (run : Run) (event : RunEvent) → (event.request == i) ≡ false → reply_of i (and_then run event) ≡ reply_of i run
reply_else i run event t = ap (λ (es : List RunEvent). first_in (λ (e : RunEvent). e.reply) es) (own_other i run event t)

-- The replies are still those that the events gave: where the event ended its request, and where it didn't.
pub replies_on : (script : Requests) (run : Run) (journal : List JournalStep) (replies given_also : List (Option Reply)) (lane place : ℕ) (request : Request) (event : RunEvent) (given : Reply) → IsTurn script journal replies lane place request → AreReplies script run replies → event.request ≡ place
    → event.reply ≡ Some given → length given_also ≡ length replies → RepliesAlso replies given_also place given → AreReplies script (and_then run event) given_also
replies_on script run journal replies given_also lane place request event given turn are at ended many also = (many ∙ are.0, λ i lt. by_test i lt (event.request == i) refl)
  where
    by_test : (i : ℕ) → i < length script → (b : Bool) → (event.request == i) ≡ b → slice_get given_also i ≡ Some (reply_of i (and_then run event))
    by_test i lt true t =
        let e : event.request ≡ i = grind (arith, common_steps, t) in
        let p : place ≡ i = sym at ∙ e in
        let none : reply_of i run ≡ None = one_some (reply_of i run) None ((sym (are.1 i lt) ∙ ap (λ (n : ℕ). slice_get replies n) (sym p)) ∙ turn.unanswered) in
        (ap (λ (n : ℕ). slice_get given_also n) (sym p) ∙ also.here) ∙ ap (λ (o : Option Reply). Some o) (sym (reply_now i run event e none ∙ ended))
    by_test i lt false t =
        (also.others i (ap (λ (n : ℕ). n == i) (sym at) ∙ t) ∙ are.1 i lt) ∙ ap (λ (o : Option Reply). Some o) (sym (reply_else i run event t))

pub replies_stay : (script : Requests) (run : Run) (journal : List JournalStep) (replies : List (Option Reply)) (lane place : ℕ) (request : Request) (event : RunEvent) → IsTurn script journal replies lane place request → AreReplies script run replies → event.request ≡ place
    → event.reply ≡ None → AreReplies script (and_then run event) replies
replies_stay script run journal replies lane place request event turn are at more = (are.0, λ i lt. by_test i lt (event.request == i) refl)
  where
    by_test : (i : ℕ) → i < length script → (b : Bool) → (event.request == i) ≡ b → slice_get replies i ≡ Some (reply_of i (and_then run event))
    by_test i lt true t =
        let e : event.request ≡ i = grind (arith, common_steps, t) in
        let p : place ≡ i = sym at ∙ e in
        let none : reply_of i run ≡ None = one_some (reply_of i run) None ((sym (are.1 i lt) ∙ ap (λ (n : ℕ). slice_get replies n) (sym p)) ∙ turn.unanswered) in
        are.1 i lt ∙ ap (λ (o : Option Reply). Some o) (none ∙ sym (reply_now i run event e none ∙ more))
    by_test i lt false t = are.1 i lt ∙ ap (λ (o : Option Reply). Some o) (sym (reply_else i run event t))

-- ---- each step is told

-- Every event that makes a step has its entry, also with one event more.
pub told_on : (script : Requests) (run : Run) (journal : List JournalStep) (lane : ℕ) (request : Request) (event : RunEvent) (answer : Option Reply) (left : Lists) → slice_get script event.request ≡ Some (lane, request) → is_some answer ≡ makes_step request event.part event.refused
    → AreTold script run journal → AreTold script (and_then run event) (journal ++ steps_made run request event answer left)
told_on script run journal lane request event answer left there is told n found asked e a makes = by_place (last_or_before run event found n e)
  where
    made : (o : Option Reply) → is_some o ≡ true → (step : JournalStep) × Contains (journal ++ steps_made run request event o left) step × (step.event ≡ length run.events)
    made None some = absurd (cc some)
    made (Some x) some = (record { lane = event.lane; request = event.request; half = half_of request event.part; event = length run.events; answer = x; left = left }, Contains-push journal _, refl)

    by_place : (slice_get run.events n ≡ Some found) ⊎ ((n ≡ length run.events) × (found ≡ event)) → (step : JournalStep) × Contains (journal ++ steps_made run request event answer left) step × (step.event ≡ n)
    by_place (inl old) = let t = told n found asked old a makes in (t.0, Contains-append_left journal (steps_made run request event answer left) t.0 t.1, t.2)
    by_place (inr last) =
        let q : asked ≡ (lane, request) = one_some asked (lane, request) ((sym a ∙ ap (λ (x : RunEvent). slice_get script x.request) last.1) ∙ there) in
        let some : is_some answer ≡ true = (is ∙ ap (λ (x : RunEvent). makes_step request x.part x.refused) (sym last.1)) ∙ (ap (λ (x : ℕ × Request). makes_step x.1 found.part found.refused) (sym q) ∙ makes) in
        let m = made answer some in
        (m.0, m.1, m.2 ∙ sym last.0)
