-- Laws of the journal: what is added to a legal one leaves it legal.
use Rattle.std.specs.Prelude.{◌≡◌, ◌≤◌, ◌<◌, ◌+◌, ◌-◌, ◌^◌, ◌==◌, min, ℕ, Bool, true, false, cond, List, [], ◌∷◌, ◌++◌, length, map, filter, count_by, slice_get, Option, Some, None, All, ◌⊎◌, refl}
use Rattle.std.proofs.Common.{sym, ◌∙◌, ap, arith, subst, inl, inr}
use Rattle.std.proofs.lemmas.Grind.{common_steps}
use Rattle.std.proofs.lemmas.List.{append-nil}
use Rattle.std.proofs.lemmas.List.Elements.{All-weaker, filter-append}
use Rattle.mdbox_base.specs.Streams.{Rose}
use Rattle.disk_model.specs.Disk.{Faults}
use Rattle.mdbox_base.specs.declared.requests.Request.{Request}
use Rattle.mdbox_base.specs.declared.replies.Refusal.TheVariants as refusal
use Rattle.mdbox_base.specs.declared.replies.Reply.{Reply}
use Rattle.mdbox_base.specs.declared.replies.Reply.TheVariants as reply
use Rattle.model_lists.specs.Lists.{Lists}
use Rattle.model_octets.proofs.PairLemmas.{pairs_push}
use Rattle.list_machine.specs.Run.{RunEvent, Run, and_then}
use Rattle.journal.specs.Journal.{Requests, halves_of, JournalStep, IsStep, left_by, steps_of, IsFirstPart, StandInOrder, HasReply, IsReplyOf, AreReplied, is_read_fault, AreBefore, LacksOrGoesOn, IsHalted, HaveCauses, IsLegal}
use Rattle.journal.proofs.JournalLemmas.{get_more, steps_more, steps_push, steps_within}
use Rattle.journal.specs.GoesOn.{MayCome, RepliesAlso, MayReply}

-- ---- numbers

numbers_same : (a b : ℕ) → (a == b) ≡ true → a ≡ b
numbers_same a b e = grind (arith, common_steps, e)

-- ---- the steps of one request in a journal that grows

one_test : {X : Type 0} → (p : X → Bool) (x : X) → p x ≡ false → filter p (x ∷ []) ≡ []
one_test p x e = ap (λ (b : Bool). cond b (x ∷ []) []) e

steps_of_other : (i : ℕ) (journal : List JournalStep) (step : JournalStep) → (step.request == i) ≡ false → steps_of i (journal ++ step ∷ []) ≡ steps_of i journal
steps_of_other i journal step e =
    (filter-append (λ (s : JournalStep). s.request == i) journal (step ∷ []) ∙ ap (λ (xs : List JournalStep). steps_of i journal ++ xs) (one_test (λ (s : JournalStep). s.request == i) step e)) ∙ append-nil (steps_of i journal)

-- ---- causes in a run that grows

unfinished_more : (run : Run) (event : RunEvent) (script : Requests) (journal : List JournalStep) (i : ℕ) → LacksOrGoesOn run script journal i → LacksOrGoesOn (and_then run event) script journal i
unfinished_more run event script journal i (inl x) = inl x
unfinished_more run event script journal i (inr x) = inr (x.0, x.1, get_more run.events (event ∷ []) x.0 x.1 x.2, x.3, x.4)

unfinished_along : (run : Run) (script : Requests) (a b : List JournalStep) (i : ℕ) → steps_of i a ≡ steps_of i b → LacksOrGoesOn run script a i → LacksOrGoesOn run script b i
unfinished_along run script a b i e (inl x) = inl (x.0, x.1, subst (λ (s : List JournalStep). length s < length (halves_of x.0.1)) e x.2)
unfinished_along run script a b i e (inr x) = inr (x.0, x.1, x.2, x.3, subst (λ (s : List JournalStep). AreBefore s x.0) e x.4)

cut_off_along : (a b : List JournalStep) (replies : List (Option Reply)) (i : ℕ) → steps_of i a ≡ steps_of i b → IsHalted a replies i → IsHalted b replies i
cut_off_along a b replies i e c = (sym e ∙ c.0, c.1)

-- ---- an event that makes no step

-- An event that makes no step leaves what is legal so: its moment is not before those of the events so far.
pub legal_quiet : (start : Lists) (script : Requests) (run : Run) (journal : List JournalStep) (replies : List (Option Reply)) (old new : Faults) (event : RunEvent) → IsLegal start script run journal replies old new
    → All (λ e. e.moment ≤ event.moment) run.events → IsLegal start script (and_then run event) journal replies old new
legal_quiet start script run journal replies old new event l later = record {
  moments = pairs_push (λ (a b : RunEvent). a.moment ≤ b.moment) run.events event l.moments later;
  steps = steps_more run script start journal event l.steps;
  order = l.order;
  replied = l.replied;
  causes = record {
    reads = l.causes.reads;
    changes = l.causes.changes;
    unfinished = λ i h. unfinished_more run event script journal i (l.causes.unfinished i h);
    later = l.causes.later;
  };
}

-- ---- a step

no_reply : (replies : List (Option Reply)) (i j : ℕ) (given : Reply) → i ≡ j → slice_get replies i ≡ Some None → HasReply replies j given → ⊥
no_reply replies i j given e n h = let k : Some None ≡ Some (Some given) = (sym n ∙ ap (λ (m : ℕ). slice_get replies m) e) ∙ h in differ k
  where
    differ : Some None ≡ Some (Some given) → ⊥
    differ k = let z : None ≡ Some given = cc k in cc z

step_halves : (script : Requests) (journal : List JournalStep) (replies : List (Option Reply)) (step : JournalStep) → MayCome script journal replies step → StandInOrder script journal → (i : ℕ) (asked : ℕ × Request) → slice_get script i ≡ Some asked
    → IsFirstPart (map (λ s. s.half) (steps_of i (journal ++ step ∷ []))) (halves_of asked.1)
step_halves script journal replies step m o i asked e = by_test (step.request == i) refl
  where
    by_test : (b : Bool) → (step.request == i) ≡ b → IsFirstPart (map (λ s. s.half) (steps_of i (journal ++ step ∷ []))) (halves_of asked.1)
    by_test true h =
        let same = numbers_same step.request i h in
        subst (λ (k : ℕ). IsFirstPart (map (λ s. s.half) (steps_of k (journal ++ step ∷ []))) (halves_of asked.1)) same (m.next_half asked (ap (λ (k : ℕ). slice_get script k) same ∙ e))
    by_test false h = subst (λ (s : List JournalStep). IsFirstPart (map (λ x. x.half) s) (halves_of asked.1)) (sym (steps_of_other i journal step h)) (o.halves i asked e)

step_replied : (script : Requests) (journal : List JournalStep) (replies : List (Option Reply)) (step : JournalStep) → MayCome script journal replies step → AreReplied script journal replies → AreReplied script (journal ++ step ∷ []) replies
step_replied script journal replies step m r i asked given e h = by_test (step.request == i) refl
  where
    by_test : (b : Bool) → (step.request == i) ≡ b → IsReplyOf asked.1 (map (λ s. s.answer) (steps_of i (journal ++ step ∷ []))) given
    by_test true t = absurd (no_reply replies step.request i given (numbers_same step.request i t) m.not_replied h)
    by_test false t = subst (λ (s : List JournalStep). IsReplyOf asked.1 (map (λ x. x.answer) s) given) (sym (steps_of_other i journal step t)) (r i asked given e h)

step_unfinished : (run : Run) (event : RunEvent) (script : Requests) (journal : List JournalStep) (replies : List (Option Reply)) (step : JournalStep) (old new : Faults) → MayCome script journal replies step → HaveCauses run script journal replies old new
    → (i : ℕ) → HasReply replies i (reply.Refused refusal.Stopped) → LacksOrGoesOn (and_then run event) script (journal ++ step ∷ []) i
step_unfinished run event script journal replies step old new m c i h = by_test (step.request == i) refl
  where
    by_test : (b : Bool) → (step.request == i) ≡ b → LacksOrGoesOn (and_then run event) script (journal ++ step ∷ []) i
    by_test true t = absurd (no_reply replies step.request i (reply.Refused refusal.Stopped) (numbers_same step.request i t) m.not_replied h)
    by_test false t = unfinished_along (and_then run event) script journal (journal ++ step ∷ []) i (sym (steps_of_other i journal step t)) (unfinished_more run event script journal i (c.unfinished i h))

step_later : (run : Run) (script : Requests) (journal : List JournalStep) (replies : List (Option Reply)) (step : JournalStep) (old new : Faults) → MayCome script journal replies step → HaveCauses run script journal replies old new
    → (i j : ℕ) (first second : ℕ × Request) → HasReply replies i (reply.Refused refusal.Stopped) → i < j → slice_get script i ≡ Some first → slice_get script j ≡ Some second → first.0 ≡ second.0 → IsHalted (journal ++ step ∷ []) replies j
step_later run script journal replies step old new m c i j first second h lt e f same = by_test (step.request == j) refl
  where
    by_test : (b : Bool) → (step.request == j) ≡ b → IsHalted (journal ++ step ∷ []) replies j
    by_test true t =
        let k = numbers_same step.request j t in
        absurd (m.goes_on i first second h (subst (λ (n : ℕ). i < n) (sym k) lt) e (ap (λ (n : ℕ). slice_get script n) k ∙ f) same)
    by_test false t = cut_off_along journal (journal ++ step ∷ []) replies j (sym (steps_of_other j journal step t)) (c.later i j first second h lt e f same)

-- An event that makes a step, which may come next, leaves what is legal so.
pub legal_step : (start : Lists) (script : Requests) (run : Run) (journal : List JournalStep) (replies : List (Option Reply)) (old new : Faults) (event : RunEvent) (step : JournalStep) → IsLegal start script run journal replies old new
    → All (λ e. e.moment ≤ event.moment) run.events → step.event ≡ length run.events → IsStep (and_then run event) script (left_by start journal) step → MayCome script journal replies step
    → IsLegal start script (and_then run event) (journal ++ step ∷ []) replies old new
legal_step start script run journal replies old new event step l later at s m = record {
  moments = pairs_push (λ (a b : RunEvent). a.moment ≤ b.moment) run.events event l.moments later;
  steps = steps_push (and_then run event) script start journal step (steps_more run script start journal event l.steps) s;
  order = record {
    events = pairs_push (λ (a b : JournalStep). a.event < b.event) journal step l.order.events
        (All-weaker (λ (x : JournalStep). x.event < length run.events) (λ (x : JournalStep). x.event < step.event) (λ x h. omega (arith, h, at)) journal (steps_within run script start journal l.steps));
    halves = step_halves script journal replies step m l.order;
    lanes = pairs_push (λ (a b : JournalStep). a.lane ≡ b.lane → a.request ≤ b.request) journal step l.order.lanes m.next_request;
  };
  replied = step_replied script journal replies step m l.replied;
  causes = record {
    reads = l.causes.reads;
    changes = l.causes.changes;
    unfinished = step_unfinished run event script journal replies step old new m l.causes;
    later = step_later run script journal replies step old new m l.causes;
  };
}

-- ---- a reply

-- what a request replied after: this one, or what it had replied before
reply_now : (before after : List (Option Reply)) (i : ℕ) (given : Reply) → RepliesAlso before after i given → (j : ℕ) (r : Reply) → HasReply after j r → ((i ≡ j) × (r ≡ given)) ⊎ HasReply before j r
reply_now before after i given m j r h = by_test (i == j) refl
  where
    same : Some (Some r) ≡ Some (Some given) → r ≡ given
    same k = let z : Some r ≡ Some given = cc k in cc z

    by_test : (b : Bool) → (i == j) ≡ b → ((i ≡ j) × (r ≡ given)) ⊎ HasReply before j r
    by_test true t = let k = numbers_same i j t in inl (k, same ((sym h ∙ ap (λ (n : ℕ). slice_get after n) (sym k)) ∙ m.here))
    by_test false t = inr (sym (m.others j t) ∙ h)

some_ask : (script : Requests) (i j : ℕ) (a b : ℕ × Request) → i ≡ j → slice_get script i ≡ Some a → slice_get script j ≡ Some b → a ≡ b
some_ask script i j a b k e f = let z : Some a ≡ Some b = (sym e ∙ ap (λ (n : ℕ). slice_get script n) k) ∙ f in cc z

cut_off_now : (script : Requests) (run : Run) (journal : List JournalStep) (before after : List (Option Reply)) (old new : Faults) (i : ℕ) (given : Reply) → RepliesAlso before after i given → MayReply script run journal before after old new i given
    → (k j : ℕ) (first second : ℕ × Request) → HasReply before k (reply.Refused refusal.Stopped) → k < j → slice_get script k ≡ Some first → slice_get script j ≡ Some second → first.0 ≡ second.0 → IsHalted journal before j → IsHalted journal after j
cut_off_now script run journal before after old new i given m r k j first second h lt e f lanes c = (c.0, λ x y. by_now x (reply_now before after i given m j x y))
  where
    by_now : (x : Reply) → ((i ≡ j) × (x ≡ given)) ⊎ HasReply before j x → (x ≡ reply.Refused refusal.NoMemory) ⊎ (x ≡ reply.Refused refusal.Stopped)
    by_now x (inr y) = c.1 x y
    by_now x (inl y) =
        let ask : r.asked ≡ second = some_ask script i j r.asked second y.0 r.request_is f in
        let lanes_too : first.0 ≡ r.asked.0 = lanes ∙ ap (λ (q : ℕ × Request). q.0) (sym ask) in
        subst (λ (z : Reply). (z ≡ reply.Refused refusal.NoMemory) ⊎ (z ≡ reply.Refused refusal.Stopped)) (sym y.1) (r.behind k first h (subst (λ (n : ℕ). k < n) (sym y.0) lt) e lanes_too)

-- behind the request that is cut off now
cut_off_first : (script : Requests) (run : Run) (journal : List JournalStep) (before after : List (Option Reply)) (old new : Faults) (i : ℕ) (given : Reply) → RepliesAlso before after i given → (j : ℕ) → i < j → IsHalted journal before j → IsHalted journal after j
cut_off_first script run journal before after old new i given m j lt c = (c.0, λ x y. by_now x (reply_now before after i given m j x y))
  where
    by_now : (x : Reply) → ((i ≡ j) × (x ≡ given)) ⊎ HasReply before j x → (x ≡ reply.Refused refusal.NoMemory) ⊎ (x ≡ reply.Refused refusal.Stopped)
    by_now x (inr y) = c.1 x y
    by_now x (inl y) = let k = y.0 in absurd (omega (arith, lt, k))

-- A reply that may be given leaves what is legal so.
pub legal_reply : (start : Lists) (script : Requests) (run : Run) (journal : List JournalStep) (before after : List (Option Reply)) (old new : Faults) (i : ℕ) (given : Reply) → IsLegal start script run journal before old new
    → RepliesAlso before after i given → MayReply script run journal before after old new i given → IsLegal start script run journal after old new
legal_reply start script run journal before after old new i given l m r = record {
  moments = l.moments;
  steps = l.steps;
  order = l.order;
  replied = λ j asked x e h. replied j asked x e (reply_now before after i given m j x h);
  causes = record {
    reads = r.reads;
    changes = λ j h. changes j (reply_now before after i given m j (reply.Refused refusal.Stopped) h);
    unfinished = λ j h. unfinished j (reply_now before after i given m j (reply.Refused refusal.Stopped) h);
    later = λ k j first second h lt e f lanes. later k j first second lt e f lanes (reply_now before after i given m k (reply.Refused refusal.Stopped) h);
  };
}
  where
    replied : (j : ℕ) (asked : ℕ × Request) (x : Reply) → slice_get script j ≡ Some asked → ((i ≡ j) × (x ≡ given)) ⊎ HasReply before j x → IsReplyOf asked.1 (map (λ s. s.answer) (steps_of j journal)) x
    replied j asked x e (inr y) = l.replied j asked x e y
    replied j asked x e (inl y) =
        let ask : r.asked ≡ asked = some_ask script i j r.asked asked y.0 r.request_is e in
        subst (λ (z : Reply). IsReplyOf asked.1 (map (λ s. s.answer) (steps_of j journal)) z) (sym y.1)
        (subst (λ (n : ℕ). IsReplyOf asked.1 (map (λ s. s.answer) (steps_of n journal)) given) y.0
        (subst (λ (q : ℕ × Request). IsReplyOf q.1 (map (λ s. s.answer) (steps_of i journal)) given) ask r.by_steps))

    changes : (j : ℕ) → ((i ≡ j) × (reply.Refused refusal.Stopped ≡ given)) ⊎ HasReply before j (reply.Refused refusal.Stopped) → Rose old.changes new.changes
    changes j (inl y) = r.changes (sym y.1)
    changes j (inr y) = l.causes.changes j y

    unfinished : (j : ℕ) → ((i ≡ j) × (reply.Refused refusal.Stopped ≡ given)) ⊎ HasReply before j (reply.Refused refusal.Stopped) → LacksOrGoesOn run script journal j
    unfinished j (inl y) = subst (λ (n : ℕ). LacksOrGoesOn run script journal n) y.0 (r.unfinished (sym y.1))
    unfinished j (inr y) = l.causes.unfinished j y

    later : (k j : ℕ) (first second : ℕ × Request) → k < j → slice_get script k ≡ Some first → slice_get script j ≡ Some second → first.0 ≡ second.0
        → ((i ≡ k) × (reply.Refused refusal.Stopped ≡ given)) ⊎ HasReply before k (reply.Refused refusal.Stopped) → IsHalted journal after j
    later k j first second lt e f lanes (inl y) =
        let ask : r.asked ≡ first = some_ask script i k r.asked first y.0 r.request_is e in
        let less : i < j = subst (λ (n : ℕ). n < j) (sym y.0) lt in
        cut_off_first script run journal before after old new i given m j less (r.later (sym y.1) j second less f (ap (λ (q : ℕ × Request). q.0) ask ∙ lanes))
    later k j first second lt e f lanes (inr y) =
        cut_off_now script run journal before after old new i given m r k j first second y lt e f lanes (l.causes.later k j first second y lt e f lanes)

-- ---- faults

rose_more : (n a b c : ℕ) → min (a + n) (2 ^ 64 - 1) ≤ b → b ≤ c → min (a + n) (2 ^ 64 - 1) ≤ c
rose_more n a b c p q = omega (arith, p, q)

-- Counts of faults that rise further leave what is legal so.
pub legal_faults : (start : Lists) (script : Requests) (run : Run) (journal : List JournalStep) (replies : List (Option Reply)) (old new more : Faults) → IsLegal start script run journal replies old new
    → new.reads ≤ more.reads → new.changes ≤ more.changes → IsLegal start script run journal replies old more
legal_faults start script run journal replies old new more l reads changes = record {
  moments = l.moments;
  steps = l.steps;
  order = l.order;
  replied = l.replied;
  causes = record {
    reads = rose_more (count_by is_read_fault replies) old.reads new.reads more.reads l.causes.reads reads;
    changes = λ i h. rose_more 1 old.changes new.changes more.changes (l.causes.changes i h) changes;
    unfinished = l.causes.unfinished;
    later = l.causes.later;
  };
}
