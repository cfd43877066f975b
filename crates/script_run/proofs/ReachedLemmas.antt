-- The lists that a crash may leave of a request alone that makes one step.
use Rattle.std.specs.Prelude.{◌≡◌, ◌≤◌, ◌<◌, ◌++◌, ℕ, zero, suc, false, List, [], ◌∷◌, ◌⊎◌, All, AllPairs, drop, length, map, slice_get, take, Option, Some, None}
use Rattle.std.proofs.Common.{refl, sym, ◌∙◌, ap, subst, arith, inl, inr}
use Rattle.std.proofs.lemmas.List.{length-map, length-append}
use Rattle.std.proofs.lemmas.List.Elements.{All-cons, All-head, All-nil, All-tail}
use Rattle.model_octets.proofs.PairLemmas.{pairs_head}
use Rattle.disk_model.specs.Disk.{Faults}
use Rattle.mdbox_base.specs.declared.entries.Highest.{Highest}
use Rattle.mdbox_base.specs.declared.ids.Uid.{Uid}
use Rattle.mdbox_base.specs.declared.replies.Refusal.{Refusal}
use Rattle.mdbox_base.specs.declared.replies.Refusal.TheVariants as refusal
use Rattle.mdbox_base.specs.declared.replies.Reply.{Reply}
use Rattle.mdbox_base.specs.declared.replies.Reply.TheVariants as reply
use Rattle.mdbox_base.specs.declared.requests.Request.{Request}
use Rattle.mdbox_base.specs.declared.requests.Request.TheVariants as request
use Rattle.model_lists.specs.Lists.{Lists}
use Rattle.model_meaning.specs.BoxMeaning.{BoxMeaning}
use Rattle.model_meaning.specs.MapMeaning.{MapMeaning}
use Rattle.list_machine.specs.Machine.{Does, PartAnswers}
use Rattle.list_machine.specs.Run.{EventPart, First, GivesBack, Last, RemovesLog, Run, RunEvent, before}
use Rattle.journal.specs.Events.{Around, behind_delete, behind_event, behind_expunge}
use Rattle.journal.specs.Journal.{AreSteps, Broken, IsLegal, IsStep, JournalStep, Reached, WouldHaveBeen, as_if, halves_of, left_by, refusal_in, steps_of}
use Rattle.journal.specs.Makes.{AreNextEvents, IsServed}
use Rattle.journal.proofs.AloneLemmas.{all_own}
use Rattle.script_run.specs.One.{IsAlongOne, MakesOneStep, alone}
use Rattle.script_run.specs.Opening.{LogsShowLists}
use Rattle.script_run.proofs.AloneLemmas.{first_only, one_place}
use Rattle.script_run.proofs.CopyRunLemmas.{CopiesAlone, copies_alone, copy_place}
use Rattle.script_run.proofs.PartLemmas.{part_after, some_part}
use Rattle.script_run.proofs.ToldLemmas.{IsMove, refused_told, step_answers, step_told}

-- ---- which event of it makes the step

abbrev step_part : Request → EventPart
step_part (request.Copy name uid target) = Last
step_part asked = First

abbrev step_place : Request → ℕ
step_place (request.Copy name uid target) = 1
step_place asked = 0

-- no first part stands behind another
expunge_behind : (around : Around) (run : Run) (name : List ℕ) (uid : Uid) (e : RunEvent) (part : EventPart) (refused : Option Refusal) → e.part ≡ part → e.refused ≡ refused → behind_event around run (request.Expunge name uid) e e.refused ≡ Some First → ⊥
expunge_behind around run name uid e part (Some why) parts refused is = let k : None ≡ Some First = ap (λ (r : Option Refusal). behind_event around run (request.Expunge name uid) e r) (sym refused) ∙ is in cc k
expunge_behind around run name uid e part None parts refused is = by_part part (ap behind_expunge (sym parts) ∙ (ap (λ (r : Option Refusal). behind_event around run (request.Expunge name uid) e r) (sym refused) ∙ is))
  where
    by_part : (part : EventPart) → behind_expunge part ≡ Some First → ⊥
    by_part First k = let z : Some GivesBack ≡ Some First = k in cc (some_part GivesBack First z)
    by_part part k = let z : None ≡ Some First = k in cc z

delete_behind : (around : Around) (run : Run) (name : List ℕ) (e : RunEvent) (part : EventPart) (refused : Option Refusal) → e.part ≡ part → e.refused ≡ refused → behind_event around run (request.Delete name) e e.refused ≡ Some First → ⊥
delete_behind around run name e part (Some why) parts refused is = let k : None ≡ Some First = ap (λ (r : Option Refusal). behind_event around run (request.Delete name) e r) (sym refused) ∙ is in cc k
delete_behind around run name e part None parts refused is = by_part part (ap behind_delete (sym parts) ∙ (ap (λ (r : Option Refusal). behind_event around run (request.Delete name) e r) (sym refused) ∙ is))
  where
    by_part : (part : EventPart) → behind_delete part ≡ Some First → ⊥
    by_part First k = let z : Some RemovesLog ≡ Some First = k in cc (some_part RemovesLog First z)
    by_part part k = let z : None ≡ Some First = k in cc z

rename_behind : (around : Around) (run : Run) (name target : List ℕ) (e : RunEvent) (refused : Option Refusal) (next : EventPart) → behind_event around run (request.Rename name target) e refused ≡ Some next → ⊥
rename_behind around run name target e None next is = let k : None ≡ Some next = is in cc k
rename_behind around run name target e (Some why) next is = let k : None ≡ Some next = is in cc k

-- a copy was served from lists that the logs show
abbrev CopiesIf : Request → Run → Lists → List JournalStep → Type 0
CopiesIf (request.Copy name uid target) run start journal = CopiesAlone false name uid target run start journal
CopiesIf asked run start journal = Unit {0}

-- Its step is made at the same event always.
step_at : (around after : ℕ → Around) (start : Lists) (asked : Request) (run : Run) (journal : List JournalStep) → MakesOneStep asked → CopiesIf asked run start journal → AreNextEvents around after (alone asked) start run journal → (n : ℕ) (event : RunEvent) → slice_get run.events n ≡ Some event → event.part ≡ step_part asked → n ≡ step_place asked
step_at around after start (request.Copy name uid target) run journal one copies next n event at part = copy_place false name uid target run start journal copies n event at part
step_at around after start (request.Expunge name uid) run journal one copies next zero event at part = refl
step_at around after start (request.Expunge name uid) run journal one copies next (suc n) event at part =
    let b = part_after around after start (request.Expunge name uid) run journal next n event at in
    absurd (expunge_behind (around (suc n)) (before (suc n) run) name uid b.0 b.0.part b.0.refused refl refl (b.2 ∙ ap (λ (p : EventPart). Some p) part))
step_at around after start (request.Delete name) run journal one copies next zero event at part = refl
step_at around after start (request.Delete name) run journal one copies next (suc n) event at part =
    let b = part_after around after start (request.Delete name) run journal next n event at in
    absurd (delete_behind (around (suc n)) (before (suc n) run) name b.0 b.0.part b.0.refused refl refl (b.2 ∙ ap (λ (p : EventPart). Some p) part))
step_at around after start (request.Rename name target) run journal one copies next zero event at part = refl
step_at around after start (request.Rename name target) run journal one copies next (suc n) event at part =
    let b = part_after around after start (request.Rename name target) run journal next n event at in
    absurd (rename_behind (around (suc n)) (before (suc n) run) name target b.0 b.0.refused event.part b.2)
step_at around after start (request.List name) run journal one copies next n event at part = first_only around after start (request.List name) run journal one next n event at
step_at around after start (request.Flag name uid flags) run journal one copies next n event at part = first_only around after start (request.Flag name uid flags) run journal one next n event at
step_at around after start (request.Keywords name uid words) run journal one copies next n event at part = first_only around after start (request.Keywords name uid words) run journal one next n event at
step_at around after start request.Counts run journal one copies next n event at part = first_only around after start request.Counts run journal one next n event at
step_at around after start other run journal one copies next n event at part = absurd one

-- ---- what a step leaves

does_at : (asked : Request) → MakesOneStep asked → (run : Run) (event : RunEvent) (part : EventPart) (given : Reply) (old new : Lists) → Does run event old asked part given new → part ≡ step_part asked
does_at (request.List name) one run event First given old new d = refl
does_at (request.List name) one run event part given old new d = absurd d
does_at (request.Flag name uid flags) one run event First given old new d = refl
does_at (request.Flag name uid flags) one run event part given old new d = absurd d
does_at (request.Keywords name uid words) one run event First given old new d = refl
does_at (request.Keywords name uid words) one run event part given old new d = absurd d
does_at request.Counts one run event First given old new d = refl
does_at request.Counts one run event part given old new d = absurd d
does_at (request.Expunge name uid) one run event First given old new d = refl
does_at (request.Expunge name uid) one run event part given old new d = absurd d
does_at (request.Delete name) one run event First given old new d = refl
does_at (request.Delete name) one run event part given old new d = absurd d
does_at (request.Rename name target) one run event First given old new d = refl
does_at (request.Rename name target) one run event part given old new d = absurd d
does_at (request.Copy name uid target) one run event Last given old new d = refl
does_at (request.Copy name uid target) one run event part given old new d = absurd d
does_at other one run event part given old new d = absurd one

-- the part of a request's events that makes its step, and that one event of a run has it
abbrev pub DoesAt : Request → EventPart → Type 0
DoesAt asked made = (run : Run) (event : RunEvent) (part : EventPart) (given : Reply) (old new : Lists) → Does run event old asked part given new → part ≡ made

abbrev pub OneIsAt : Run → EventPart → Type 0
OneIsAt run made = (n m : ℕ) (a b : RunEvent) → slice_get run.events n ≡ Some a → slice_get run.events m ≡ Some b → a.part ≡ made → b.part ≡ made → n ≡ m

effect_of : (asked : Request) (made : EventPart) → DoesAt asked made → (run : Run) (event : RunEvent) (part : EventPart) (given : Reply) (old new : Lists) → PartAnswers run event old asked part given new → (new ≡ old) ⊎ ((part ≡ made) × (refusal_in given ≡ None))
effect_of asked made does run event part (reply.Refused why) old new a = inl a.1
effect_of asked made does run event part given old new a = inr (does run event part given old new a.1, refl)

-- a step leaves the lists, or is made at that event
record IsMadeAt (run : Run) (made : EventPart) (step : JournalStep) : Type 0 where
  event : RunEvent
  event_is : slice_get run.events step.event ≡ Some event
  part_is : event.part ≡ made
  free : event.refused ≡ None

made_at : (asked : Request) (made : EventPart) → DoesAt asked made → (run : Run) (old : Lists) (step : JournalStep) → IsStep run (alone asked) old step → (step.left ≡ old) ⊎ IsMadeAt run made step
made_at asked made does run old step s =
    let found = one_place asked step.request s.asked s.request_is in
    let a = subst (λ (q : ℕ × Request). PartAnswers (before step.event run) s.event old q.1 s.event.part step.answer step.left) found.1 s.answers in
    elim (effect_of asked made does (before step.event run) s.event s.event.part step.answer old step.left a) [
      | inl same ↦ inl same
      | inr here ↦ inr (record { event = s.event; event_is = s.event_is; part_is = here.0; free = s.says ∙ here.1 })
    ]

never_moves : (asked : Request) → MakesOneStep asked → IsMove asked → ⊥
never_moves (request.Move name uid target) one m = one
never_moves asked one m = m

one_left : (asked : Request) (run : Run) (start : Lists) (steps : List JournalStep) → (IsMove asked → ⊥) → AreSteps run (alone asked) start steps → length steps ≤ 1 → IsAlongOne asked start (left_by start steps)
one_left asked run start [] m s few = (reply.Refused refusal.NoMemory, refused_told asked refusal.NoMemory start)
one_left asked run start (step ∷ []) m s few =
    let a = step_answers run asked start step s.0 in (step.answer, step_told asked (before step.event run) a.event a.event.part step.answer start step.left m a.answers)
one_left asked run start (step ∷ more ∷ rest) m s few = absurd (let n : suc (suc (length rest)) ≤ 1 = few in omega (arith, n))

-- ---- how many steps there are

one_half : (asked : Request) → MakesOneStep asked → length (halves_of asked) ≤ 1
one_half (request.Move name uid target) one = absurd one
one_half asked one = omega arith

few_made : (start : Lists) (asked : Request) (run : Run) (journal : List JournalStep) (replies : List (Option Reply)) (old new : Faults) → length (halves_of asked) ≤ 1 → IsLegal start (alone asked) run journal replies old new → length journal ≤ 1
few_made start asked run journal replies old new most l =
    let b = l.order.halves 0 (1, asked) refl in
    let total = sym (length-append (map (λ (s : JournalStep). s.half) (steps_of 0 journal)) b.0) ∙ ap length b.1 in
    let same = length-map (steps_of 0 journal) (λ (s : JournalStep). s.half) ∙ ap length (all_own run (1, asked) start journal l.steps) in
    omega (arith, total, most, same)

pub few_of : (k : ℕ) (steps : List JournalStep) → AllPairs (λ a b. a.event < b.event) steps → All (λ s. s.event ≡ k) steps → length steps ≤ 1
few_of k [] order at = omega arith
few_of k (a ∷ []) order at = omega arith
few_of k (a ∷ b ∷ rest) order at =
    let lt = All-head (λ (y : JournalStep). a.event < y.event) b rest (pairs_head (λ (x y : JournalStep). x.event < y.event) a (b ∷ rest) order) in
    let first = All-head (λ (s : JournalStep). s.event ≡ k) a (b ∷ rest) at in
    let second = All-head (λ (s : JournalStep). s.event ≡ k) b rest (All-tail (λ (s : JournalStep). s.event ≡ k) a (b ∷ rest) at) in
    absurd (omega (arith, lt, first, second))

-- an event that would have been is that of the failed append, of the same part
pub record IsWould (events : List RunEvent) (place n : ℕ) (would : RunEvent) : Type 0 where
  pub here : n ≡ place
  pub failed : RunEvent
  pub failed_is : slice_get events place ≡ Some failed
  pub stopped : failed.refused ≡ Some refusal.Stopped
  pub part_is : would.part ≡ failed.part

pub would_at : (events would : List RunEvent) (place n : ℕ) (b : RunEvent) → WouldHaveBeen (drop place events) would → length would ≤ 1 → place ≤ n → slice_get (take place events ++ would) n ≡ Some b → IsWould events place n b
would_at [] [] zero n b w one l at = absurd (let k : None ≡ Some b = at in cc k)
would_at [] [] (suc place) n b w one l at = absurd (let k : None ≡ Some b = at in cc k)
would_at [] (x ∷ rest) zero n b w one l at = absurd w
would_at [] (x ∷ rest) (suc place) n b w one l at = absurd w
would_at (e ∷ events) [] zero n b w one l at = absurd (let k : None ≡ Some b = at in cc k)
would_at (e ∷ events) (x ∷ []) zero zero b w one l at =
    let k : Some x ≡ Some b = at in
    let same : x ≡ b = cc k in
    record { here = refl; failed = e; failed_is = refl; stopped = w.0; part_is = ap (λ (y : RunEvent). y.part) (sym same) ∙ w.3 }
would_at (e ∷ events) (x ∷ []) zero (suc n) b w one l at = absurd (let k : None ≡ Some b = at in cc k)
would_at (e ∷ events) (x ∷ y ∷ rest) zero n b w one l at = absurd (let k : suc (suc (length rest)) ≤ 1 = one in omega (arith, k))
would_at (e ∷ events) would (suc place) zero b w one l at = absurd (omega (arith, l))
would_at (e ∷ events) would (suc place) (suc n) b w one l at =
    let k = would_at events would place n b w one (omega (arith, l)) at in
    record { here = ap suc k.here; failed = k.failed; failed_is = k.failed_is; stopped = k.stopped; part_is = k.part_is }

pub broken_at : (asked : Request) (run : Run) (broken : Broken) (start : Lists) (steps : List JournalStep) → WouldHaveBeen (drop broken.place run.events) broken.events → length broken.events ≤ 1 → AreSteps (as_if run broken) (alone asked) start steps → All (λ step. broken.place ≤ step.event) steps → All (λ step. step.event ≡ broken.place) steps
broken_at asked run broken start [] w one s place = All-nil (λ (x : JournalStep). x.event ≡ broken.place)
broken_at asked run broken start (step ∷ steps) w one s place =
    All-cons (λ (x : JournalStep). x.event ≡ broken.place) step steps (would_at run.events broken.events broken.place step.event s.0.event w one (All-head (λ (x : JournalStep). broken.place ≤ x.event) step steps place) s.0.event_is).here
    (broken_at asked run broken step.left steps w one s.1 (All-tail (λ (x : JournalStep). broken.place ≤ x.event) step steps place))

-- ---- the lists that are reached

pub prefix_of : (steps : List JournalStep) (p : ℕ) → length steps ≤ 1 → (take p steps ≡ []) ⊎ (take p steps ≡ steps)
prefix_of steps zero few = inl refl
prefix_of [] (suc p) few = inl refl
prefix_of (step ∷ []) (suc zero) few = inr refl
prefix_of (step ∷ []) (suc (suc p)) few = inr refl
prefix_of (step ∷ more ∷ rest) p few = absurd (let n : suc (suc (length rest)) ≤ 1 = few in omega (arith, n))

-- A crash leaves the lists before the request, or those that its step leaves.
pub reached_by : (asked : Request) (part : EventPart) (start : Lists) (run : Run) (journal : List JournalStep) (broken : Broken) (replies : List (Option Reply)) (old new : Faults) (first m : MapMeaning) (drawn : Highest) (calls : ℕ) → (IsMove asked → ⊥) → length (halves_of asked) ≤ 1 → DoesAt asked part → OneIsAt run part
    → IsServed start (alone asked) run journal broken replies old new first m drawn calls → (moment : ℕ) (lists : Lists) → Reached start run journal broken moment lists → IsAlongOne asked start lists
reached_by asked part start run journal broken replies old new first m drawn calls apart half does at s moment lists r = by_reach r
  where
    few : length journal ≤ 1
    few = few_made start asked run journal replies old new half s.legal

    few_broken : length broken.steps ≤ 1
    few_broken = few_of broken.place broken.steps s.of_failure.once (broken_at asked run broken (left_by start journal) broken.steps s.of_failure.events s.of_failure.one s.broken_is s.of_failure.steps)

    left : IsAlongOne asked start (left_by start journal)
    left = one_left asked run start journal apart s.legal.steps few

    -- a step was made, so the failed append would have made none
    made : (steps : List JournalStep) (step : JournalStep) (lists : Lists) → IsMadeAt run part step → length steps ≤ 1 → AreSteps (as_if run broken) (alone asked) lists steps → All (λ x. broken.place ≤ x.event) steps → left_by lists steps ≡ lists
    made [] step lists by few t place = refl
    made (b ∷ more ∷ rest) step lists by few t place = absurd (let n : suc (suc (length rest)) ≤ 1 = few in omega (arith, n))
    made (b ∷ []) step lists by few t place = elim (made_at asked part does (as_if run broken) lists b t.0) [
      | inl same ↦ same
      | inr again ↦
          let w = would_at run.events broken.events broken.place b.event again.event s.of_failure.events s.of_failure.one (All-head (λ (x : JournalStep). broken.place ≤ x.event) b [] place) again.event_is in
          let here = at step.event broken.place by.event w.failed by.event_is w.failed_is by.part_is (sym w.part_is ∙ again.part_is) in
          let one_is : Some by.event ≡ Some w.failed = sym by.event_is ∙ (ap (λ (n : ℕ). slice_get run.events n) here ∙ w.failed_is) in
          let same : by.event ≡ w.failed = cc one_is in
          absurd (let k : None ≡ Some refusal.Stopped = sym by.free ∙ (ap (λ (x : RunEvent). x.refused) same ∙ w.stopped) in cc k)
    ]

    by_journal : (journal : List JournalStep) → length journal ≤ 1 → AreSteps run (alone asked) start journal → AreSteps (as_if run broken) (alone asked) (left_by start journal) broken.steps → IsAlongOne asked start (left_by start journal) → IsAlongOne asked start (left_by (left_by start journal) broken.steps)
    by_journal [] few t u left = one_left asked (as_if run broken) start broken.steps apart u few_broken
    by_journal (step ∷ more ∷ rest) few t u left = absurd (let n : suc (suc (length rest)) ≤ 1 = few in omega (arith, n))
    by_journal (step ∷ []) few t u left = elim (made_at asked part does run start step t.0) [
      | inl same ↦
          subst (λ (ls : Lists). IsAlongOne asked start (left_by ls broken.steps)) (sym same)
          (one_left asked (as_if run broken) start broken.steps apart (subst (λ (ls : Lists). AreSteps (as_if run broken) (alone asked) ls broken.steps) same u) few_broken)
      | inr by ↦ subst (IsAlongOne asked start) (sym (made broken.steps step step.left by few_broken u s.of_failure.steps)) left
    ]

    by_reach : Reached start run journal broken moment lists → IsAlongOne asked start lists
    by_reach (inl (p, acknowledged, is)) = subst (IsAlongOne asked start) (sym is) (elim (prefix_of journal p few) [
      | inl none ↦ subst (λ (steps : List JournalStep). IsAlongOne asked start (left_by start steps)) (sym none) (reply.Refused refusal.NoMemory, refused_told asked refusal.NoMemory start)
      | inr all ↦ subst (λ (steps : List JournalStep). IsAlongOne asked start (left_by start steps)) (sym all) left
    ])
    by_reach (inr (began, is)) = subst (IsAlongOne asked start) (sym is) (by_journal journal few s.legal.steps s.broken_is left)

copies_if : (asked : Request) (start : Lists) (run : Run) (journal : List JournalStep) (broken : Broken) (replies : List (Option Reply)) (old new : Faults) (first m : MapMeaning) (drawn : Highest) (calls : ℕ) (meanings : List BoxMeaning) → LogsShowLists first meanings start
    → IsServed start (alone asked) run journal broken replies old new first m drawn calls → CopiesIf asked run start journal
copies_if (request.Copy name uid target) start run journal broken replies old new first m drawn calls meanings shown s = copies_alone false name uid target start run journal broken replies old new first m drawn calls meanings shown s
copies_if asked start run journal broken replies old new first m drawn calls meanings shown s = tt

-- So it is of each request that makes its step at the same event always, from lists that the logs show.
pub reached_once : (asked : Request) (start : Lists) (run : Run) (journal : List JournalStep) (broken : Broken) (replies : List (Option Reply)) (old new : Faults) (first m : MapMeaning) (drawn : Highest) (calls : ℕ) (meanings : List BoxMeaning) → LogsShowLists first meanings start → MakesOneStep asked
    → IsServed start (alone asked) run journal broken replies old new first m drawn calls → (moment : ℕ) (lists : Lists) → Reached start run journal broken moment lists → IsAlongOne asked start lists
reached_once asked start run journal broken replies old new first m drawn calls meanings shown one s moment lists r =
    let at = step_at s.around s.after start asked run journal one (copies_if asked start run journal broken replies old new first m drawn calls meanings shown s) s.next in
    reached_by asked (step_part asked) start run journal broken replies old new first m drawn calls (never_moves asked one) (one_half asked one) (does_at asked one)
    (λ n k a b there here first second. at n a there first ∙ sym (at k b here second)) s moment lists r
