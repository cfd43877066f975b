-- The part of each event of a request alone, by that of the event before it.
use Rattle.std.specs.Prelude.{◌≡◌, ◌==◌, ◌++◌, ℕ, zero, suc, Bool, true, false, cond, List, [], ◌∷◌, filter, slice_get, take, Some, None}
use Rattle.std.proofs.Common.{refl, sym, ◌∙◌, ap, arith}
use Rattle.std.proofs.lemmas.Grind.{common_steps}
use Rattle.mdbox_base.specs.declared.requests.Request.{Request}
use Rattle.model_lists.specs.Lists.{Lists}
use Rattle.list_machine.specs.Run.{EventPart, First, Run, RunEvent, before, own_events}
use Rattle.journal.specs.Events.{Around, behind_event, next_part}
use Rattle.journal.specs.Journal.{JournalStep}
use Rattle.journal.specs.Makes.{AreNextEvents}
use Rattle.script_run.specs.One.{alone}
use Rattle.script_run.proofs.AloneLemmas.{own_event}

-- the part of the next event is one behind the last event
next_behind : (around : Around) (run : Run) (asked : Request) (own : List RunEvent) (e : RunEvent) → next_part around run asked (own ++ e ∷ []) ≡ behind_event around run asked e e.refused
next_behind around run asked [] e = refl
next_behind around run asked (x ∷ []) e = refl
next_behind around run asked (x ∷ y ∷ rest) e = next_behind around run asked (y ∷ rest) e

pub own_test : (k : ℕ) → k ≡ 0 → (k == 0) ≡ true
own_test k e = grind (arith, common_steps, e)

own_taken : (events : List RunEvent) (n : ℕ) (e : RunEvent) → ((k : ℕ) (x : RunEvent) → slice_get events k ≡ Some x → x.request ≡ 0) → slice_get events n ≡ Some e → filter (λ x. x.request == 0) (take (suc n) events) ≡ filter (λ x. x.request == 0) (take n events) ++ e ∷ []
own_taken [] n e all at = absurd (let k : None ≡ Some e = at in cc k)
own_taken (x ∷ events) zero e all at =
    let k : Some x ≡ Some e = at in
    let same : x ≡ e = cc k in
    by_test (x.request == 0) (own_test x.request (all 0 x refl)) ∙ ap (λ (y : RunEvent). y ∷ []) same
  where
    by_test : (b : Bool) → b ≡ true → cond b (x ∷ []) [] ≡ x ∷ []
    by_test true t = refl
    by_test false t = absurd (cc t)
own_taken (x ∷ events) (suc n) e all at = by_test (x.request == 0) (own_test x.request (all 0 x refl)) (own_taken events n e (λ k y there. all (suc k) y there) at)
  where
    by_test : (b : Bool) → b ≡ true → filter (λ y. y.request == 0) (take (suc n) events) ≡ filter (λ y. y.request == 0) (take n events) ++ e ∷ []
        → cond b (x ∷ filter (λ y. y.request == 0) (take (suc n) events)) (filter (λ y. y.request == 0) (take (suc n) events)) ≡ cond b (x ∷ filter (λ y. y.request == 0) (take n events)) (filter (λ y. y.request == 0) (take n events)) ++ e ∷ []
    by_test true t rest = ap (λ (es : List RunEvent). x ∷ es) rest
    by_test false t rest = absurd (cc t)

pub get_before : {X : Type 0} → (xs : List X) (n : ℕ) (x : X) → slice_get xs (suc n) ≡ Some x → (y : X) × (slice_get xs n ≡ Some y)
get_before [] n x at = absurd (let k : None ≡ Some x = at in cc k)
get_before (y ∷ xs) zero x at = (y, refl)
get_before (y ∷ xs) (suc n) x at = get_before xs n x at

-- The part of an event is the first, or the one behind that of the event before it.
pub part_after : (around after : ℕ → Around) (start : Lists) (asked : Request) (run : Run) (journal : List JournalStep) → AreNextEvents around after (alone asked) start run journal → (n : ℕ) (event : RunEvent) → slice_get run.events (suc n) ≡ Some event
    → (e : RunEvent) × (slice_get run.events n ≡ Some e) × (behind_event (around (suc n)) (before (suc n) run) asked e e.refused ≡ Some event.part)
part_after around after start asked run journal next n event at =
    let e = get_before run.events n event at in
    let k = own_event around after start asked run journal next (suc n) event at in
    let own = own_taken run.events n e.0 (λ m x there. (own_event around after start asked run journal next m x there).0) e.1 in
    let part = ap (λ (r : ℕ). next_part (around (suc n)) (before (suc n) run) asked (own_events r (before (suc n) run))) (sym k.0) ∙ k.1.part_is in (
      e.0,
      e.1,
      sym (next_behind (around (suc n)) (before (suc n) run) asked (filter (λ x. x.request == 0) (take n run.events)) e.0) ∙ (ap (λ (es : List RunEvent). next_part (around (suc n)) (before (suc n) run) asked es) (sym own) ∙ part),
    )

pub part_first : (around after : ℕ → Around) (start : Lists) (asked : Request) (run : Run) (journal : List JournalStep) → AreNextEvents around after (alone asked) start run journal → (event : RunEvent) → slice_get run.events 0 ≡ Some event → event.part ≡ First
part_first around after start asked run journal next event at =
    let k = own_event around after start asked run journal next 0 event at in
    let e : Some First ≡ Some event.part = k.1.part_is in
    let f : First ≡ event.part = cc e in
    sym f

pub some_part : (a b : EventPart) → Some a ≡ Some b → a ≡ b
some_part a b e = cc e
