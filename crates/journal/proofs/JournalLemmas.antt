-- Laws of the journal: what a legal one goes on by, and that it is determined.
use Rattle.std.specs.Prelude.{◌≡◌, ◌≤◌, ◌<◌, ℕ, List, [], ◌∷◌, ◌++◌, length, map, slice_get, Some, All, refl}
use Rattle.std.proofs.Common.{sym, ◌∙◌, ap, arith, subst}
use Rattle.std.proofs.lemmas.List.{take-append-le, get_or_append_left, length-append}
use Rattle.std.proofs.lemmas.List.Elements.{All-nil, All-cons}
use Rattle.std.proofs.lemmas.Option.{slice_get_within, slice_get-get_or, get_or_from_slice_get}
use Rattle.mdbox_base.specs.declared.requests.Request.{Request}
use Rattle.mdbox_base.specs.declared.replies.Reply.{Reply}
use Rattle.model_lists.specs.Lists.{Lists}
use Rattle.list_machine.specs.Run.{RunEvent, Run, before, and_then}
use Rattle.list_machine.specs.Machine.{Answers}
use Rattle.list_machine.proofs.MachineLemmas.{some_one}
use Rattle.list_machine.proofs.OneStepLemmas.{answers_one}
use Rattle.journal.specs.Journal.{Requests, half_of, JournalStep, IsStep, AreSteps, left_by}
use Rattle.mdbox_base.specs.declared.script.Half.{Half}
use Rattle.journal.specs.GoesOn.{event_at}

-- ---- lists that grow

pub get_more : {X : Type 0} → (xs ys : List X) (n : ℕ) (x : X) → slice_get xs n ≡ Some x → slice_get (xs ++ ys) n ≡ Some x
get_more xs ys n x e =
    let lt = slice_get_within xs n x e in
    let same = length-append xs ys in
    slice_get-get_or (xs ++ ys) n x (omega (arith, lt, same)) ∙ ap (λ (y : _). Some y) (get_or_append_left xs ys x n lt ∙ get_or_from_slice_get xs n x x e)

-- ---- a run that grows

pub before_more : (run : Run) (event : RunEvent) (n : ℕ) → n ≤ length run.events → before n run ≡ before n (and_then run event)
before_more run event n le = ap (λ (es : List RunEvent). record run { events = es }) (sym (take-append-le n run.events (event ∷ []) le))

step_more : (run : Run) (script : Requests) (old : Lists) (step : JournalStep) (event : RunEvent) → IsStep run script old step → IsStep (and_then run event) script old step
step_more run script old step event s =
    let lt = slice_get_within run.events step.event s.event s.event_is in
    record {
      asked = s.asked;
      request_is = s.request_is;
      lane_is = s.lane_is;
      event = s.event;
      event_is = get_more run.events (event ∷ []) step.event s.event s.event_is;
      own_request = s.own_request;
      own_lane = s.own_lane;
      half_is = s.half_is;
      says = s.says;
      answers = subst (λ (r : Run). Answers r old s.asked.1 s.event step.answer step.left) (before_more run event step.event (omega (arith, lt))) s.answers;
    }

pub steps_more : (run : Run) (script : Requests) (old : Lists) (steps : List JournalStep) (event : RunEvent) → AreSteps run script old steps → AreSteps (and_then run event) script old steps
steps_more run script old [] event s = tt
steps_more run script old (step ∷ steps) event s = (step_more run script old step event s.0, steps_more run script step.left steps event s.1)

pub steps_push : (run : Run) (script : Requests) (old : Lists) (steps : List JournalStep) (step : JournalStep) → AreSteps run script old steps → IsStep run script (left_by old steps) step → AreSteps run script old (steps ++ step ∷ [])
steps_push run script old [] step s t = (t, tt)
steps_push run script old (first ∷ steps) step s t = (s.0, steps_push run script first.left steps step s.1 t)

-- every step's event is one of the run
pub steps_within : (run : Run) (script : Requests) (old : Lists) (steps : List JournalStep) → AreSteps run script old steps → All (λ step. step.event < length run.events) steps
steps_within run script old [] s = All-nil (λ step. step.event < length run.events)
steps_within run script old (step ∷ steps) s =
    All-cons (λ step. step.event < length run.events) step steps (slice_get_within run.events step.event s.0.event s.0.event_is) (steps_within run script step.left steps s.1)

-- ---- one journal

-- a step is determined by its event
abbrev step_made : ℕ → ℕ → Half → ℕ → Reply → Lists → JournalStep
step_made lane request half event answer left = record { lane = lane; request = request; half = half; event = event; answer = answer; left = left }

step_one : (run : Run) (script : Requests) (old : Lists) (a b : JournalStep) → a.event ≡ b.event → IsStep run script old a → IsStep run script old b → a ≡ b
step_one run script old a b e s t =
    let events : s.event ≡ t.event = some_one (slice_get run.events a.event) s.event t.event s.event_is (ap (λ (n : ℕ). slice_get run.events n) e ∙ t.event_is) in
    let requests : a.request ≡ b.request = (sym s.own_request ∙ ap (λ (x : RunEvent). x.request) events) ∙ t.own_request in
    let lanes : a.lane ≡ b.lane = (sym s.own_lane ∙ ap (λ (x : RunEvent). x.lane) events) ∙ t.own_lane in
    let asked : s.asked ≡ t.asked = some_one (slice_get script a.request) s.asked t.asked s.request_is (ap (λ (n : ℕ). slice_get script n) requests ∙ t.request_is) in
    let halves : a.half ≡ b.half = ((s.half_is ∙ ap (λ (q : ℕ × Request). half_of q.1 s.event.part) asked) ∙ ap (λ (x : RunEvent). half_of t.asked.1 x.part) events) ∙ sym t.half_is in
    let there : Answers (before a.event run) old s.asked.1 s.event b.answer b.left =
    subst (λ (q : ℕ × Request). Answers (before a.event run) old q.1 s.event b.answer b.left) (sym asked)
    (subst (λ (x : RunEvent). Answers (before a.event run) old t.asked.1 x b.answer b.left) (sym events)
    (subst (λ (n : ℕ). Answers (before n run) old t.asked.1 t.event b.answer b.left) (sym e) t.answers)) in
    let same = answers_one (before a.event run) old s.asked.1 s.event a.answer b.answer a.left b.left s.answers there in
    ((((ap (λ (x : ℕ). step_made x a.request a.half a.event a.answer a.left) lanes ∙ ap (λ (x : ℕ). step_made b.lane x a.half a.event a.answer a.left) requests)
    ∙ ap (λ (x : Half). step_made b.lane b.request x a.event a.answer a.left) halves) ∙ ap (λ (x : ℕ). step_made b.lane b.request b.half x a.answer a.left) e)
    ∙ ap (λ (x : Reply). step_made b.lane b.request b.half b.event x a.left) same.0) ∙ ap (λ (x : Lists). step_made b.lane b.request b.half b.event b.answer x) same.1

cons_same : {X : Type 0} → (x y : X) (xs ys : List X) → x ∷ xs ≡ y ∷ ys → (x ≡ y) × (xs ≡ ys)
cons_same x y xs ys e = (cc e, cc e)

-- Two journals of a run from the same lists are one, where the same events made their steps.
pub one_journal : (run : Run) (script : Requests) (start : Lists) (a b : List JournalStep) → AreSteps run script start a → AreSteps run script start b → map event_at a ≡ map event_at b → a ≡ b
one_journal run script start [] [] s t e = refl
one_journal run script start [] (y ∷ ys) s t e = absurd (let h : [] ≡ y.event ∷ map event_at ys = e in cc h)
one_journal run script start (x ∷ xs) [] s t e = absurd (let h : x.event ∷ map event_at xs ≡ [] = e in cc h)
one_journal run script start (x ∷ xs) (y ∷ ys) s t e =
    let h = cons_same x.event y.event (map event_at xs) (map event_at ys) e in
    let first : x ≡ y = step_one run script start x y h.0 s.0 t.0 in
    let rest : xs ≡ ys = one_journal run script x.left xs ys s.1 (subst (λ (z : JournalStep). AreSteps run script z.left ys) (sym first) t.1) h.1 in
    ap (λ (z : JournalStep). z ∷ xs) first ∙ ap (λ (zs : List JournalStep). y ∷ zs) rest
