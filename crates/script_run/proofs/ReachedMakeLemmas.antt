-- The lists that a crash may leave of a make alone, which makes one step: its mailbox has the next number by the map's log.
use Rattle.std.specs.Prelude.{◌≡◌, ◌≤◌, ◌==◌, ◌&&◌, ◌+◌, ◌++◌, ℕ, zero, suc, nat_le, nat_lt, Bool, true, false, List, [], ◌∷◌, ◌⊎◌, All, if◌then◌else◌, length, map, slice_get, take, Option, Some, None}
use Rattle.std.proofs.Common.{refl, sym, ◌∙◌, ap, subst, arith, inl, inr}
use Rattle.std.proofs.lemmas.Grind.{common_steps}
use Rattle.std.proofs.lemmas.List.{length-append, length-map}
use Rattle.std.proofs.lemmas.List.Elements.{All-head}
use Rattle.disk_model.specs.Disk.{Faults}
use Rattle.mdbox_base.specs.declared.entries.Highest.{Highest}
use Rattle.mdbox_base.specs.declared.entries.MapEntry.{MapEntry}
use Rattle.mdbox_base.specs.declared.replies.Refusal.{Refusal}
use Rattle.mdbox_base.specs.declared.replies.Refusal.TheVariants as refusal
use Rattle.mdbox_base.specs.declared.replies.Reply.{Reply}
use Rattle.mdbox_base.specs.declared.replies.Reply.TheVariants as reply
use Rattle.mdbox_base.specs.declared.requests.Request.{Request}
use Rattle.mdbox_base.specs.declared.requests.Request.TheVariants as request
use Rattle.model_lists.specs.Lists.{Lists}
use Rattle.model_meaning.specs.MapMeaning.{MapMeaning, map_meaning}
use Rattle.list_machine.specs.Machine.{Does, IsMade, PartAnswers}
use Rattle.list_machine.specs.Run.{EventPart, First, Last, StartsOver, Run, RunEvent, before, drawn_of, map_of}
use Rattle.journal.specs.Events.{Around, DidMake, behind_event, behind_make, is_overtaken, number_of}
use Rattle.journal.specs.Journal.{AreSteps, Broken, IsLegal, IsStep, JournalStep, Reached, as_if, left_by, refusal_in, steps_of}
use Rattle.journal.specs.Makes.{AreNextEvents, HasCome, IsServed}
use Rattle.journal.proofs.AloneLemmas.{all_own}
use Rattle.mail_ops.specs.Making.{with_mailbox}
use Rattle.script_run.specs.One.{AreAlongMake, alone, next_mailbox}
use Rattle.script_run.proofs.AloneLemmas.{one_place, own_event}
use Rattle.script_run.proofs.PartLemmas.{part_after, part_first, some_part}
use Rattle.script_run.proofs.ReachedLemmas.{IsWould, broken_at, few_of, prefix_of, would_at}

abbrev making : List ℕ → Request
making name = request.Make name

-- ---- which event of it makes its step

make_behind : (overtaken : Bool) (part next : EventPart) → behind_make overtaken part ≡ Some next → (next ≡ First → part ≡ StartsOver) × (next ≡ Last → part ≡ First) × (next ≡ StartsOver → (part ≡ First) × (overtaken ≡ true))
make_behind true First next is = let k : StartsOver ≡ next = some_part StartsOver next is in (λ e. absurd (cc (k ∙ e)), λ e. absurd (cc (k ∙ e)), λ e. (refl, refl))
make_behind false First next is = let k : Last ≡ next = some_part Last next is in (λ e. absurd (cc (k ∙ e)), λ e. refl, λ e. absurd (cc (k ∙ e)))
make_behind overtaken StartsOver next is = let k : First ≡ next = some_part First next is in (λ e. refl, λ e. absurd (cc (k ∙ e)), λ e. absurd (cc (k ∙ e)))
make_behind overtaken part next is = absurd (let z : None ≡ Some next = is in cc z)

-- the run of a make alone, which begins with the map and the numbers that it names
record IsMakeRun (name : List ℕ) (run : Run) (start : Lists) (journal : List JournalStep) (first : MapMeaning) : Type 0 where
  around : ℕ → Around
  after : ℕ → Around
  next : AreNextEvents around after (alone (making name)) start run journal
  begins : HasCome (before 0 run) first first.highest 0

-- the event before one that isn't the first
record ComesBehind (run : Run) (n : ℕ) (next : EventPart) : Type 0 where
  event : RunEvent
  event_is : slice_get run.events n ≡ Some event
  free : event.refused ≡ None
  after : behind_make (is_overtaken (before (suc n) run) event.request) event.part ≡ Some next

behind_free : (around : Around) (run : Run) (name : List ℕ) (event : RunEvent) (next : EventPart) (refused : Option Refusal) → event.refused ≡ refused → behind_event around run (making name) event event.refused ≡ Some next → (event.refused ≡ None) × (behind_make (is_overtaken run event.request) event.part ≡ Some next)
behind_free around run name event next None free is = (free, ap (λ (r : Option Refusal). behind_event around run (making name) event r) (sym free) ∙ is)
behind_free around run name event next (Some why) refused is =
    let z : None ≡ Some next = ap (λ (r : Option Refusal). behind_event around run (making name) event r) (sym refused) ∙ is in absurd (cc z)

make_after : (name : List ℕ) (run : Run) (start : Lists) (journal : List JournalStep) (first : MapMeaning) → IsMakeRun name run start journal first → (n : ℕ) (event : RunEvent) → slice_get run.events (suc n) ≡ Some event → ComesBehind run n event.part
make_after name run start journal first r n event at =
    let k = part_after r.around r.after start (making name) run journal r.next n event at in
    let b = behind_free (r.around (suc n)) (before (suc n) run) name k.0 event.part k.0.refused refl k.2 in
    record { event = k.0; event_is = k.1; free = b.0; after = b.1 }

-- ---- behind its first event

-- one number was drawn, and the map has no entry more
record HasDrawnOne (run : Run) (first : MapMeaning) : Type 0 where
  highest : (map_of run).highest.mailbox ≡ first.highest.mailbox
  drawn : (drawn_of run).mailbox ≡ next_mailbox first
  number : number_of run 0 ≡ next_mailbox first

take_one : (events : List RunEvent) (e : RunEvent) → slice_get events 0 ≡ Some e → take 1 events ≡ e ∷ []
take_one [] e at = absurd (let k : None ≡ Some e = at in cc k)
take_one (x ∷ rest) e at =
    let k : Some x ≡ Some e = at in
    let same : x ≡ e = cc k in
    ap (λ (y : RunEvent). y ∷ []) same

number_one : (r d opened : ℕ) → r ≡ 0 → d ≡ 1 → (if (r == 0) && nat_lt 0 d then opened + d else 0) ≡ opened + 1
number_one r d opened own one =
    subst (λ (x : ℕ). (if (x == 0) && nat_lt 0 d then opened + d else 0) ≡ opened + 1) (sym own)
    (subst (λ (x : ℕ). (if (0 == 0) && nat_lt 0 x then opened + x else 0) ≡ opened + 1) (sym one) refl)

drew_one : (name : List ℕ) (run : Run) (first : MapMeaning) (e : RunEvent) → HasCome (before 0 run) first first.highest 0 → e.request ≡ 0 → DidMake run name e First → HasDrawnOne (record run { events = e ∷ [] }) first
drew_one name run first e begins own did =
    let opened : run.opened.mailbox ≡ first.highest.mailbox = ap (λ (h : Highest). h.mailbox) begins.drawn_is in
    let one : e.drew.mailbox ≡ 1 = ap (λ (x : RunEvent). x.drew.mailbox) did in
    let none : e.map_entries ≡ [] = ap (λ (x : RunEvent). x.map_entries) did in
    record {
      highest = ap (λ (es : List MapEntry). (map_meaning run.store (run.start ++ (es ++ []))).highest.mailbox) none ∙ ap (λ (m : MapMeaning). m.highest.mailbox) begins.map_is;
      drawn = ap (λ (d : ℕ). run.opened.mailbox + d) one ∙ ap (λ (n : ℕ). n + 1) opened;
      number = number_one e.request e.drew.mailbox run.opened.mailbox own one ∙ ap (λ (n : ℕ). n + 1) opened;
    }

-- the first event of the run did so, where another stands behind it
first_drew : (name : List ℕ) (run : Run) (start : Lists) (journal : List JournalStep) (first : MapMeaning) → IsMakeRun name run start journal first → (e : RunEvent) → slice_get run.events 0 ≡ Some e → e.refused ≡ None → HasDrawnOne (before 1 run) first
first_drew name run start journal first r e at free =
    let own = own_event r.around r.after start (making name) run journal r.next 0 e at in
    let part = part_first r.around r.after start (making name) run journal r.next e at in
    let did : DidMake (before 0 run) name e First = subst (λ (p : EventPart). DidMake (before 0 run) name e p) part (own.1.did free) in
    subst (λ (es : List RunEvent). HasDrawnOne (record run { events = es }) first) (sym (take_one run.events e at)) (drew_one name run first e r.begins own.0 did)

not_above : (n m h : ℕ) → n ≡ h + 1 → m ≡ h → nat_le n m ≡ true → ⊥
not_above n m h above same le = grind (arith, common_steps, above, same, le)

-- it isn't overtaken
never_overtaken : (run : Run) (first : MapMeaning) (request : ℕ) → request ≡ 0 → HasDrawnOne run first → is_overtaken run request ≡ true → ⊥
never_overtaken run first request own d le =
    not_above (number_of run 0) (map_of run).highest.mailbox first.highest.mailbox d.number d.highest (subst (λ (q : ℕ). is_overtaken run q ≡ true) own le)

-- So it never starts over.
record HasParts (run : Run) (n : ℕ) : Type 0 where
  once : (event : RunEvent) → slice_get run.events n ≡ Some event → event.part ≡ StartsOver → ⊥
  first : (event : RunEvent) → slice_get run.events n ≡ Some event → event.part ≡ First → n ≡ 0

parts : (name : List ℕ) (run : Run) (start : Lists) (journal : List JournalStep) (first : MapMeaning) → IsMakeRun name run start journal first → (n : ℕ) → HasParts run n
parts name run start journal first r zero = record {
  once = λ event at part. absurd (let k : First ≡ StartsOver = sym (part_first r.around r.after start (making name) run journal r.next event at) ∙ part in cc k);
  first = λ event at part. refl;
}
parts name run start journal first r (suc n) = record {
  once = λ event at part.
      let k = make_after name run start journal first r n event at in
      let b = (make_behind (is_overtaken (before (suc n) run) k.event.request) k.event.part event.part k.after).2 part in
      let here = (parts name run start journal first r n).first k.event k.event_is b.0 in
      overtaken n k.event here k.event_is k.free b.1;
  first = λ event at part.
      let k = make_after name run start journal first r n event at in
      absurd ((parts name run start journal first r n).once k.event k.event_is ((make_behind (is_overtaken (before (suc n) run) k.event.request) k.event.part event.part k.after).0 part));
}
  where
    overtaken : (n : ℕ) (e : RunEvent) → n ≡ 0 → slice_get run.events n ≡ Some e → e.refused ≡ None → is_overtaken (before (suc n) run) e.request ≡ true → ⊥
    overtaken n e here at free le =
        let there = ap (slice_get run.events) (sym here) ∙ at in
        let own = (own_event r.around r.after start (making name) run journal r.next 0 e there).0 in
        never_overtaken (before 1 run) first e.request own (first_drew name run start journal first r e there free) (subst (λ (m : ℕ). is_overtaken (before (suc m) run) e.request ≡ true) here le)

-- Its step is made at its second event.
record IsSecond (run : Run) (first : MapMeaning) (n : ℕ) : Type 0 where
  here : n ≡ 1
  some : RunEvent
  some_is : slice_get run.events 0 ≡ Some some
  drew : HasDrawnOne (before 1 run) first

last_at : (name : List ℕ) (run : Run) (start : Lists) (journal : List JournalStep) (first : MapMeaning) → IsMakeRun name run start journal first → (n : ℕ) (event : RunEvent) → slice_get run.events n ≡ Some event → event.part ≡ Last → IsSecond run first n
last_at name run start journal first r zero event at part = absurd (let k : First ≡ Last = sym (part_first r.around r.after start (making name) run journal r.next event at) ∙ part in cc k)
last_at name run start journal first r (suc n) event at part =
    let k = make_after name run start journal first r n event at in
    let here = (parts name run start journal first r n).first k.event k.event_is ((make_behind (is_overtaken (before (suc n) run) k.event.request) k.event.part event.part k.after).1 part) in
    let there = ap (slice_get run.events) (sym here) ∙ k.event_is in
    record { here = ap suc here; some = k.event; some_is = there; drew = first_drew name run start journal first r k.event there k.free }

-- ---- what a step leaves

record IsNamedAt (run : Run) (name : List ℕ) (old : Lists) (step : JournalStep) : Type 0 where
  event : RunEvent
  event_is : slice_get run.events step.event ≡ Some event
  part_is : event.part ≡ Last
  free : event.refused ≡ None
  made : IsMade (before step.event run) event old name step.left

make_step : (name : List ℕ) (run : Run) (old : Lists) (step : JournalStep) → IsStep run (alone (making name)) old step → (step.left ≡ old) ⊎ IsNamedAt run name old step
make_step name run old step s =
    let found = one_place (making name) step.request s.asked s.request_is in
    let a = subst (λ (q : ℕ × Request). PartAnswers (before step.event run) s.event old q.1 s.event.part step.answer step.left) found.1 s.answers in
    by_answer s.event.part refl step.answer s.says a
  where
    by_does : (part : EventPart) → s.event.part ≡ part → (given : Reply) → s.event.refused ≡ None → Does (before step.event run) s.event old (making name) part given step.left → IsNamedAt run name old step
    by_does Last part reply.Done free d = record { event = s.event; event_is = s.event_is; part_is = part; free = free; made = d }
    by_does part is given free d = absurd d

    by_answer : (part : EventPart) → s.event.part ≡ part → (answer : Reply) → s.event.refused ≡ refusal_in answer → PartAnswers (before step.event run) s.event old (making name) part answer step.left → (step.left ≡ old) ⊎ IsNamedAt run name old step
    by_answer part is (reply.Refused why) says a = inl a.1
    by_answer part is answer says a = inr (by_does part is answer says a.1)

-- the number is the next
named_next : (run : Run) (first : MapMeaning) (event : RunEvent) (name : List ℕ) (old new : Lists) → HasDrawnOne run first → IsMade run event old name new → new ≡ with_mailbox (next_mailbox first) name old
named_next run first event name old new d made =
    let fresh = made.fresh in
    let within = made.drawn in
    let highest = d.highest in
    let drawn = d.drawn in
    let is : made.number ≡ first.highest.mailbox + 1 = omega (arith, fresh, within, highest, drawn) in
    made.new_is ∙ ap (λ (n : ℕ). with_mailbox n name old) is

-- of a step of the run
step_next : (name : List ℕ) (run : Run) (start old : Lists) (journal : List JournalStep) (first : MapMeaning) (step : JournalStep) → IsMakeRun name run start journal first → IsNamedAt run name old step → (step.event ≡ 1) × (step.left ≡ with_mailbox (next_mailbox first) name old)
step_next name run start old journal first step r named =
    let second = last_at name run start journal first r step.event named.event named.event_is named.part_is in (
      second.here,
      named_next (before 1 run) first named.event name old step.left second.drew (subst (λ (n : ℕ). IsMade (before n run) named.event old name step.left) second.here named.made),
    )

take_again : (events more : List RunEvent) (e : RunEvent) → slice_get events 0 ≡ Some e → take 1 (take 1 events ++ more) ≡ take 1 events
take_again [] more e at = absurd (let k : None ≡ Some e = at in cc k)
take_again (x ∷ rest) more e at = refl

-- a failed append would have made this
record IsBrokenMake (name : List ℕ) (run : Run) (first : MapMeaning) (old left : Lists) : Type 0 where
  failed : RunEvent
  failed_is : slice_get run.events 1 ≡ Some failed
  stopped : failed.refused ≡ Some refusal.Stopped
  is : left ≡ with_mailbox (next_mailbox first) name old

broken_next : (name : List ℕ) (run : Run) (start old : Lists) (journal : List JournalStep) (first : MapMeaning) (broken : Broken) (step : JournalStep) → IsMakeRun name run start journal first → (n : IsNamedAt (as_if run broken) name old step) → IsWould run.events broken.place step.event n.event → IsBrokenMake name run first old step.left
broken_next name run start old journal first broken step r named would =
    let second = last_at name run start journal first r broken.place would.failed would.failed_is (sym would.part_is ∙ named.part_is) in
    let made : IsMade (before 1 (record run { events = take 1 run.events ++ broken.events })) named.event old name step.left =
    subst (λ (p : ℕ). IsMade (before 1 (record run { events = take p run.events ++ broken.events })) named.event old name step.left) second.here
    (subst (λ (n : ℕ). IsMade (before n (as_if run broken)) named.event old name step.left) (would.here ∙ second.here) named.made) in
    record {
      failed = would.failed;
      failed_is = ap (slice_get run.events) (sym second.here) ∙ would.failed_is;
      stopped = would.stopped;
      is = named_next (before 1 run) first named.event name old step.left second.drew
          (subst (λ (es : List RunEvent). IsMade (record run { events = es }) named.event old name step.left) (take_again run.events broken.events second.some second.some_is) made);
    }

-- ---- the lists that are reached

few_makes : (name : List ℕ) (start : Lists) (run : Run) (journal : List JournalStep) (replies : List (Option Reply)) (old new : Faults) → IsLegal start (alone (making name)) run journal replies old new → length journal ≤ 1
few_makes name start run journal replies old new l =
    let b = l.order.halves 0 (1, making name) refl in
    let total = sym (length-append (map (λ (s : JournalStep). s.half) (steps_of 0 journal)) b.0) ∙ ap length b.1 in
    let same = length-map (steps_of 0 journal) (λ (s : JournalStep). s.half) ∙ ap length (all_own run (1, making name) start journal l.steps) in
    omega (arith, total, same)

-- what the journal has come to
record HasNamed (name : List ℕ) (run : Run) (first : MapMeaning) (start left : Lists) : Type 0 where
  is : left ≡ with_mailbox (next_mailbox first) name start
  event : RunEvent
  event_is : slice_get run.events 1 ≡ Some event
  free : event.refused ≡ None

make_left : (name : List ℕ) (run : Run) (start : Lists) (journal : List JournalStep) (first : MapMeaning) → IsMakeRun name run start journal first → length journal ≤ 1 → AreSteps run (alone (making name)) start journal → (left_by start journal ≡ start) ⊎ HasNamed name run first start (left_by start journal)
make_left name run start [] first r few s = inl refl
make_left name run start (step ∷ more ∷ rest) first r few s = absurd (let n : suc (suc (length rest)) ≤ 1 = few in omega (arith, n))
make_left name run start (step ∷ []) first r few s = elim (make_step name run start step s.0) [
  | inl same ↦ inl same
  | inr named ↦ let k = step_next name run start start (step ∷ []) first step r named in inr (record { is = k.1; event = named.event; event_is = ap (slice_get run.events) (sym k.0) ∙ named.event_is; free = named.free })
]

broken_left : (name : List ℕ) (run : Run) (start left : Lists) (journal : List JournalStep) (first : MapMeaning) (broken : Broken) (steps : List JournalStep) → IsMakeRun name run start journal first → length steps ≤ 1 → AreSteps (as_if run broken) (alone (making name)) left steps
    → ((step : JournalStep) (event : RunEvent) → All (λ x. broken.place ≤ x.event) (step ∷ []) → slice_get (as_if run broken).events step.event ≡ Some event → IsWould run.events broken.place step.event event) → All (λ x. broken.place ≤ x.event) steps → (left_by left steps ≡ left) ⊎ IsBrokenMake name run first left (left_by left steps)
broken_left name run start left journal first broken [] r few s would place = inl refl
broken_left name run start left journal first broken (step ∷ more ∷ rest) r few s would place = absurd (let n : suc (suc (length rest)) ≤ 1 = few in omega (arith, n))
broken_left name run start left journal first broken (step ∷ []) r few s would place = elim (make_step name (as_if run broken) left step s.0) [
  | inl same ↦ inl same
  | inr named ↦ inr (broken_next name run start left journal first broken step r named (would step named.event place named.event_is))
]

along_so : (name : List ℕ) (run : Run) (first : MapMeaning) (start left : Lists) → (left ≡ start) ⊎ HasNamed name run first start left → AreAlongMake (next_mailbox first) name start left
along_so name run first start left (inl same) = inl same
along_so name run first start left (inr named) = inr named.is

along_broken : (name : List ℕ) (run : Run) (first : MapMeaning) (start left last : Lists) → (left ≡ start) ⊎ HasNamed name run first start left → (last ≡ left) ⊎ IsBrokenMake name run first left last → AreAlongMake (next_mailbox first) name start last
along_broken name run first start left last come (inl same) = subst (AreAlongMake (next_mailbox first) name start) (sym same) (along_so name run first start left come)
along_broken name run first start left last (inl none) (inr broken) = inr (broken.is ∙ ap (with_mailbox (next_mailbox first) name) none)
along_broken name run first start left last (inr named) (inr broken) =
    let k : Some named.event ≡ Some broken.failed = sym named.event_is ∙ broken.failed_is in
    let e : named.event ≡ broken.failed = cc k in
    let z : None ≡ Some refusal.Stopped = sym named.free ∙ (ap (λ (x : RunEvent). x.refused) e ∙ broken.stopped) in
    absurd (cc z)

-- A crash within a make alone leaves the lists before it, or those with the mailbox, whose number is the next one of the map with which
-- the run begins.
pub reached_make : (name : List ℕ) (start : Lists) (run : Run) (journal : List JournalStep) (broken : Broken) (replies : List (Option Reply)) (old new : Faults) (first m : MapMeaning) (drawn : Highest) (calls : ℕ) → IsServed start (alone (request.Make name)) run journal broken replies old new first m drawn calls
    → (moment : ℕ) (lists : Lists) → Reached start run journal broken moment lists → AreAlongMake (next_mailbox first) name start lists
reached_make name start run journal broken replies old new first m drawn calls s moment lists r = by_reach r
  where
    few : length journal ≤ 1
    few = few_makes name start run journal replies old new s.legal

    one : IsMakeRun name run start journal first
    one = record { around = s.around; after = s.after; next = s.next; begins = s.begins }

    come : (left_by start journal ≡ start) ⊎ HasNamed name run first start (left_by start journal)
    come = make_left name run start journal first one few s.legal.steps

    few_broken : length broken.steps ≤ 1
    few_broken = few_of broken.place broken.steps s.of_failure.once (broken_at (making name) run broken (left_by start journal) broken.steps s.of_failure.events s.of_failure.one s.broken_is s.of_failure.steps)

    last : (left_by (left_by start journal) broken.steps ≡ left_by start journal) ⊎ IsBrokenMake name run first (left_by start journal) (left_by (left_by start journal) broken.steps)
    last = broken_left name run start (left_by start journal) journal first broken broken.steps one few_broken s.broken_is
        (λ step event place at. would_at run.events broken.events broken.place step.event event s.of_failure.events s.of_failure.one (All-head (λ (x : JournalStep). broken.place ≤ x.event) step [] place) at) s.of_failure.steps

    by_reach : Reached start run journal broken moment lists → AreAlongMake (next_mailbox first) name start lists
    by_reach (inl (p, acknowledged, is)) = subst (AreAlongMake (next_mailbox first) name start) (sym is) (elim (prefix_of journal p few) [
      | inl none ↦ inl (ap (left_by start) none)
      | inr all ↦ subst (λ (steps : List JournalStep). AreAlongMake (next_mailbox first) name start (left_by start steps)) (sym all) (along_so name run first start (left_by start journal) come)
    ])
    by_reach (inr (began, is)) = subst (AreAlongMake (next_mailbox first) name start) (sym is) (along_broken name run first start (left_by start journal) (left_by (left_by start journal) broken.steps) come last)

-- ---- the reply

-- Where it is done it leaves those.
pub made_left : (name : List ℕ) (start : Lists) (run : Run) (journal : List JournalStep) (broken : Broken) (replies : List (Option Reply)) (old new : Faults) (first m : MapMeaning) (drawn : Highest) (calls : ℕ) → IsServed start (alone (request.Make name)) run journal broken replies old new first m drawn calls → AreAlongMake (next_mailbox first) name start (left_by start journal)
made_left name start run journal broken replies old new first m drawn calls s =
    along_so name run first start (left_by start journal) (make_left name run start journal first (record { around = s.around; after = s.after; next = s.next; begins = s.begins }) (few_makes name start run journal replies old new s.legal) s.legal.steps)
