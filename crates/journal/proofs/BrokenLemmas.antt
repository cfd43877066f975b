-- Laws of a failed append, and of the references that a journal leaves.
use Rattle.std.specs.Prelude.{◌≡◌, ◌≢◌, ◌<◌, ◌≤◌, ◌+◌, ℕ, List, [], ◌∷◌, ◌++◌, length, refl}
use Rattle.std.proofs.Common.{sym, ◌∙◌, ap, arith, subst, inl, inr}
use Rattle.std.specs.Prelude.{All, Some, drop}
use Rattle.std.proofs.Math.Seq.{take-length, take-append_seam, drop-append_seam}
use Rattle.std.proofs.lemmas.List.{take-append-le, drop-append-le}
use Rattle.std.proofs.lemmas.List.Elements.{All-nil, All-cons}
use Rattle.std.proofs.lemmas.List.Kept.{AllPairs-cons}
use Rattle.model_octets.proofs.PairLemmas.{pairs_nil}
use Rattle.mdbox_base.specs.declared.replies.Refusal.TheVariants as refusal
use Rattle.std.proofs.lemmas.List.Sums.{count_by-le-length}
use Rattle.model_lists.specs.Lists.{Lists, refs_of}
use Rattle.list_machine.specs.Run.{RunEvent, Run, before, and_then}
use Rattle.list_machine.proofs.MachineLemmas.{answers_refs}
use Rattle.journal.specs.Journal.{Requests, JournalStep, IsStep, AreSteps, left_by, Broken, no_broken, as_if, AreBroken, WouldHaveBeen, IsOfFailure, Reached}
use Rattle.journal.specs.GoesOn.{broken_by, all_added, all_taken}

as_if_made : (run : Run) (failed would : RunEvent) (began : ℕ) (step : JournalStep) → and_then run would ≡ as_if (and_then run failed) (broken_by run would began step)
as_if_made run failed would began step = ap (λ (es : List RunEvent). record run { events = es ++ would ∷ [] }) (sym (take-append_seam run.events (failed ∷ [])))

-- Where the event that failed would have made a step, that is the broken one.
pub broken_is : (run : Run) (script : Requests) (start : Lists) (journal : List JournalStep) (failed would : RunEvent) (began : ℕ) (step : JournalStep) → IsStep (and_then run would) script (left_by start journal) step
    → AreBroken (and_then run failed) script start journal (broken_by run would began step)
broken_is run script start journal failed would began step s = (subst (λ (r : Run). IsStep r script (left_by start journal) step) (as_if_made run failed would began step) s, tt)

-- The broken steps are of the append that failed, also in a run that goes on.
pub none_failed : (run : Run) → IsOfFailure run no_broken
none_failed run = record { first = All-nil _; events = tt; one = omega arith; steps = All-nil _; once = pairs_nil (λ (a b : JournalStep). a.event < b.event); began = All-nil _ }

would_have_been : (events failed : List RunEvent) (would : RunEvent) → events ≡ failed → WouldHaveBeen failed (would ∷ []) → WouldHaveBeen events (would ∷ [])
would_have_been events failed would e h = subst (λ (es : List RunEvent). WouldHaveBeen es (would ∷ [])) (sym e) h

pub failure_is : (run : Run) (failed would : RunEvent) (began : ℕ) (step : JournalStep) → All (λ e. e.refused ≢ Some refusal.Stopped) run.events → All (λ e. e.moment ≤ began) run.events → failed.refused ≡ Some refusal.Stopped → would.lane ≡ failed.lane → would.request ≡ failed.request
    → would.part ≡ failed.part → step.event ≡ length run.events → IsOfFailure (and_then run failed) (broken_by run would began step)
failure_is run failed would began step ran before stopped lane request part place = record {
  first = subst (λ (es : List RunEvent). All (λ e. e.refused ≢ Some refusal.Stopped) es) (sym (take-append_seam run.events (failed ∷ []))) ran;
  events = would_have_been _ (failed ∷ []) would (drop-append_seam run.events (failed ∷ [])) (stopped, lane, request, part, tt);
  one = omega arith;
  steps = All-cons (λ (s : JournalStep). length run.events ≤ s.event) step [] (omega (arith, place)) (All-nil _);
  once = AllPairs-cons (λ (a b : JournalStep). a.event < b.event) step [] (All-nil _) (pairs_nil (λ (a b : JournalStep). a.event < b.event));
  began = subst (λ (es : List RunEvent). All (λ e. e.moment ≤ began) es) (sym (take-append_seam run.events (failed ∷ []))) before;
}

would_have_been_more : (failed more would : List RunEvent) → WouldHaveBeen failed would → WouldHaveBeen (failed ++ more) would
would_have_been_more failed more [] h = tt
would_have_been_more [] more (w ∷ ws) h = absurd h
would_have_been_more (event ∷ failed) more (w ∷ ws) h = (h.0, h.1, h.2, h.3, would_have_been_more failed more ws h.4)

pub failure_still : (run : Run) (event : RunEvent) (broken : Broken) → broken.place ≤ length run.events → IsOfFailure run broken → IsOfFailure (and_then run event) broken
failure_still run event broken within f = record {
  first = subst (λ (es : List RunEvent). All (λ e. e.refused ≢ Some refusal.Stopped) es) (sym (take-append-le broken.place run.events (event ∷ []) within)) f.first;
  events = subst (λ (es : List RunEvent). WouldHaveBeen es broken.events) (sym (drop-append-le broken.place run.events (event ∷ []) within)) (would_have_been_more (drop broken.place run.events) (event ∷ []) broken.events f.events);
  one = f.one;
  steps = f.steps;
  once = f.once;
  began = subst (λ (es : List RunEvent). All (λ e. e.moment ≤ broken.began) es) (sym (take-append-le broken.place run.events (event ∷ []) within)) f.began;
}

-- What was reached before an append failed stays so, and from where it began on, what it would have left is reached too.
pub reached_fails : (start : Lists) (run : Run) (journal : List JournalStep) (broken : Broken) (m : ℕ) (lists : Lists) → Reached start run journal no_broken m lists → Reached start run journal broken m lists
reached_fails start run journal broken m lists (inl x) = inl x
reached_fails start run journal broken m lists (inr x) =
    inl (length journal, count_by-le-length _ journal, x.1 ∙ ap (λ (s : List JournalStep). left_by start s) (sym (take-length journal)))

pub reached_broken : (start : Lists) (run : Run) (journal : List JournalStep) (broken : Broken) (m : ℕ) → broken.began ≤ m → Reached start run journal broken m (left_by (left_by start journal) broken.steps)
reached_broken start run journal broken m le = inr (le, refl)

-- References change as steps do.
pub journal_refs : (run : Run) (script : Requests) (old : Lists) (steps : List JournalStep) (guid : List ℕ) (s : AreSteps run script old steps)
    → refs_of (left_by old steps) guid + all_taken run script old steps guid s ≡ refs_of old guid + all_added run script old steps guid s
journal_refs run script old [] guid s = refl
journal_refs run script old (step ∷ steps) guid s =
    let first = answers_refs (before step.event run) old s.0.asked.1 s.0.event step.answer step.left guid s.0.answers in
    let rest = journal_refs run script step.left steps guid s.1 in
    omega (arith, first, rest)
