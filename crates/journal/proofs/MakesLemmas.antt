-- A law of what a step of a task made: a legal journal goes on by it.
use Rattle.std.specs.Prelude.{◌≡◌, ◌≤◌, ◌<◌, ◌++◌, ◌∷◌, nat_lt, ℕ, Bool, true, false, cond, List, [], length, filter, Option, Some, None, All, ◌⊎◌, slice_get, refl}
use Rattle.std.proofs.Common.{sym, ◌∙◌, ap, arith, subst, inl, inr}
use Rattle.std.proofs.lemmas.Grind.{common_steps}
use Rattle.std.proofs.lemmas.Option.{slice_get_within}
use Rattle.std.proofs.Math.Seq.{take-append_seam}
use Rattle.std.proofs.lemmas.List.{append-nil, length-append}
use Rattle.std.proofs.lemmas.List.Elements.{All-weaker, All-head, All-tail, filter-append}
use Rattle.disk_model.specs.Disk.{Faults}
use Rattle.mdbox_base.specs.declared.entries.Highest.{Highest}
use Rattle.mdbox_base.specs.declared.requests.Request.{Request}
use Rattle.mdbox_base.specs.declared.replies.Reply.{Reply}
use Rattle.model_lists.specs.Lists.{Lists}
use Rattle.model_meaning.specs.MapMeaning.{MapMeaning}
use Rattle.list_machine.specs.Run.{RunEvent, Run, before, and_then}
use Rattle.list_machine.specs.Machine.{Answers}
use Rattle.journal.specs.Journal.{Requests, half_of, JournalStep, IsStep, AreSteps, left_by, IsLegal}
use Rattle.journal.proofs.JournalLemmas.{get_more, before_more, steps_within}
use Rattle.journal.proofs.LegalLemmas.{legal_quiet, legal_step}
use Rattle.journal.proofs.ReachedLemmas.{get_last, within_some}
use Rattle.journal.specs.Events.{Around, IsNextEvent}
use Rattle.journal.specs.Makes.{HasCome, StepOf, Makes, steps_made, lists_before, AreNextEvents}
use Rattle.journal.specs.GoesOn.{AllMayCome}

before_last : (run : Run) (event : RunEvent) → run ≡ before (length run.events) (and_then run event)
before_last run event = ap (λ (es : List RunEvent). record run { events = es }) (sym (take-append_seam run.events (event ∷ [])))

-- the step of an event that is the last of its run
pub made_is_step : (run : Run) (script : Requests) (asked : ℕ × Request) (old : Lists) (event : RunEvent) (answer : Reply) (left : Lists) → slice_get script event.request ≡ Some asked → event.lane ≡ asked.0
    → StepOf run asked.1 old event (Some answer) left
    → IsStep (and_then run event) script old (record { lane = event.lane; request = event.request; half = half_of asked.1 event.part; event = length run.events; answer = answer; left = left })
made_is_step run script asked old event answer left there lane s = record {
  asked = asked;
  request_is = there;
  lane_is = lane;
  event = event;
  event_is = get_last run.events event;
  own_request = refl;
  own_lane = refl;
  half_is = refl;
  says = s.1;
  answers = subst (λ (r : Run). Answers r old asked.1 event answer left) (before_last run event) s.0;
}

pub legal_made : (start : Lists) (script : Requests) (run : Run) (journal : List JournalStep) (replies : List (Option Reply)) (old new : Faults) (asked : ℕ × Request) (event : RunEvent) (answer : Option Reply) (left : Lists)
    → IsLegal start script run journal replies old new → slice_get script event.request ≡ Some asked → event.lane ≡ asked.0 → All (λ e. e.moment ≤ event.moment) run.events
    → StepOf run asked.1 (left_by start journal) event answer left → AllMayCome script journal replies (steps_made run asked.1 event answer left)
    → IsLegal start script (and_then run event) (journal ++ steps_made run asked.1 event answer left) replies old new
legal_made start script run journal replies old new asked event None left l there lane later s m =
    subst (λ (j : List JournalStep). IsLegal start script (and_then run event) j replies old new) (sym (append-nil journal)) (legal_quiet start script run journal replies old new event l later)
legal_made start script run journal replies old new asked event (Some answer) left l there lane later s m =
    legal_step start script run journal replies old new event _ l later refl (made_is_step run script asked (left_by start journal) event answer left there lane s) m

-- Where a task tells what its step made, of the run that the journal has, the journal goes on by the step that it made.
pub legal_by_task : (start : Lists) (script : Requests) (run : Run) (journal : List JournalStep) (replies : List (Option Reply)) (old new : Faults) (around after : Around) (lane place : ℕ) (request : Request)
    (left : Lists) (m then : MapMeaning) (drawn drawn_then : Highest) (calls calls_then : ℕ) (ended : Option Reply)
    → IsLegal start script run journal replies old new → HasCome run m drawn calls → calls ≤ calls_then → slice_get script place ≡ Some (lane, request)
    → (k : Makes around after run lane place request (left_by start journal) left then drawn_then calls_then ended) → AllMayCome script journal replies (steps_made run request k.event k.answer left)
    → IsLegal start script (and_then run k.event) (journal ++ steps_made run request k.event k.answer left) replies old new
legal_by_task start script run journal replies old new around after lane place request left m then drawn drawn_then calls calls_then ended l come le there k may =
    legal_made start script run journal replies old new (lane, request) k.event k.answer left l (ap (λ (n : ℕ). slice_get script n) k.request_is ∙ there) k.lane_is (later run.events come.moments) k.made may
  where
    later : (es : List RunEvent) → All (λ e. e.moment ≤ calls) es → All (λ e. e.moment ≤ k.event.moment) es
    later es a = All-weaker (λ (e : RunEvent). e.moment ≤ calls) (λ (e : RunEvent). e.moment ≤ k.event.moment) (λ e h. let z = k.moment_is in omega (arith, h, le, z)) es a

-- ---- a whole run goes on

filter_same : (p q : JournalStep → Bool) (xs : List JournalStep) → ((x : JournalStep) → p x ≡ q x) → filter p xs ≡ filter q xs
filter_same p q [] e = refl
filter_same p q (x ∷ xs) e =
    ap (λ (b : Bool). cond b (x ∷ filter p xs) (filter p xs)) (e x) ∙ ap (λ (ys : List JournalStep). cond (q x) (x ∷ ys) ys) (filter_same p q xs e)

none_kept : (p : JournalStep → Bool) (run : Run) (request : Request) (event : RunEvent) (answer : Option Reply) (left : Lists) → ((step : JournalStep) → step.event ≡ length run.events → p step ≡ false) → filter p (steps_made run request event answer left) ≡ []
none_kept p run request event None left e = refl
none_kept p run request event (Some answer) left e = ap (λ (b : Bool). cond b (steps_made run request event (Some answer) left) []) (e _ refl)

pub lists_before_more : (run : Run) (request : Request) (event : RunEvent) (answer : Option Reply) (left start : Lists) (journal : List JournalStep) (n : ℕ) → n ≤ length run.events
    → lists_before start journal n ≡ lists_before start (journal ++ steps_made run request event answer left) n
lists_before_more run request event answer left start journal n le =
    ap (λ (s : List JournalStep). left_by start s)
    (sym ((filter-append (λ (s : JournalStep). nat_lt s.event n) journal (steps_made run request event answer left)
    ∙ ap (λ (s : List JournalStep). filter (λ (x : JournalStep). nat_lt x.event n) journal ++ s) (none_kept (λ (s : JournalStep). nat_lt s.event n) run request event answer left (λ s e. not_less s.event n (omega (arith, e, le)))))
    ∙ append-nil _))
  where
    not_less : (a b : ℕ) → b ≤ a → nat_lt a b ≡ false
    not_less a b h = grind (arith, common_steps, h)

pub all_kept : (journal : List JournalStep) (n : ℕ) → All (λ s. s.event < n) journal → filter (λ s. nat_lt s.event n) journal ≡ journal
all_kept [] n a = refl
all_kept (step ∷ steps) n a =
    ap (λ (b : Bool). cond b (step ∷ filter (λ (s : JournalStep). nat_lt s.event n) steps) (filter (λ (s : JournalStep). nat_lt s.event n) steps)) (less step.event n (All-head (λ (s : JournalStep). s.event < n) step steps a))
    ∙ ap (λ (s : List JournalStep). step ∷ s) (all_kept steps n (All-tail (λ (s : JournalStep). s.event < n) step steps a))
  where
    less : (a b : ℕ) → a < b → nat_lt a b ≡ true
    less a b h = grind (arith, common_steps, h)

-- an event of a run with one more: one of those before, or the last
pub last_or_before : (run : Run) (event found : RunEvent) (n : ℕ) → slice_get (run.events ++ event ∷ []) n ≡ Some found → (slice_get run.events n ≡ Some found) ⊎ ((n ≡ length run.events) × (found ≡ event))
last_or_before run event found n e = by_test (nat_lt n (length run.events)) refl
  where
    by_test : (b : Bool) → nat_lt n (length run.events) ≡ b → (slice_get run.events n ≡ Some found) ⊎ ((n ≡ length run.events) × (found ≡ event))
    by_test true t =
        let w = within_some run.events n (let h : n < length run.events = grind (arith, common_steps, t) in h) in
        let same : Some w.0 ≡ Some found = sym (get_more run.events (event ∷ []) n w.0 w.1) ∙ e in
        inl (w.1 ∙ same)
    by_test false t =
        let ge : length run.events ≤ n = grind (arith, common_steps, t) in
        let lt = slice_get_within (run.events ++ event ∷ []) n found e in
        let all = length-append run.events (event ∷ []) in
        let at : n ≡ length run.events = omega (arith, ge, lt, all) in
        let same : Some found ≡ Some event = (sym e ∙ ap (λ (k : ℕ). slice_get (run.events ++ event ∷ []) k) at) ∙ get_last run.events event in
        inr (at, (let k : found ≡ event = cc same in k))

-- The run goes on with an event that is the next of its lane, and the step that it made.
pub run_goes_on : (around after : ℕ → Around) (script : Requests) (start : Lists) (run : Run) (journal : List JournalStep) (request : Request) (event : RunEvent) (answer : Option Reply) (left : Lists)
    → AreSteps run script start journal → AreNextEvents around after script start run journal
    → IsNextEvent (around (length run.events)) (after (length run.events)) script run (left_by start journal) event
    → AreNextEvents around after script start (and_then run event) (journal ++ steps_made run request event answer left)
run_goes_on around after script start run journal request event answer left steps are next n found e = by_place (last_or_before run event found n e)
  where
    by_place : (slice_get run.events n ≡ Some found) ⊎ ((n ≡ length run.events) × (found ≡ event)) → IsNextEvent (around n) (after n) script (before n (and_then run event)) (lists_before start (journal ++ steps_made run request event answer left) n) found
    by_place (inl there) =
        let lt = slice_get_within run.events n found there in
        subst (λ (l : Lists). IsNextEvent (around n) (after n) script (before n (and_then run event)) l found) (lists_before_more run request event answer left start journal n (omega (arith, lt)))
        (subst (λ (r : Run). IsNextEvent (around n) (after n) script r (lists_before start journal n) found) (before_more run event n (omega (arith, lt))) (are n found there))
    by_place (inr last) =
        let at = last.0 in
        subst (λ (x : RunEvent). IsNextEvent (around n) (after n) script (before n (and_then run event)) (lists_before start (journal ++ steps_made run request event answer left) n) x) (sym last.1)
        (subst (λ (k : ℕ). IsNextEvent (around k) (after k) script (before k (and_then run event)) (lists_before start (journal ++ steps_made run request event answer left) k) event) (sym at)
        (subst (λ (l : Lists). IsNextEvent (around (length run.events)) (after (length run.events)) script (before (length run.events) (and_then run event)) l event)
        (ap (λ (s : List JournalStep). left_by start s) (sym (all_kept journal (length run.events) (steps_within run script start journal steps))) ∙ lists_before_more run request event answer left start journal (length run.events) (omega arith))
        (subst (λ (r : Run). IsNextEvent (around (length run.events)) (after (length run.events)) script r (left_by start journal) event) (before_last run event) next)))
