-- The lists that a crash may leave of a move alone, which makes two steps; and that it never finds its message gone.
use Rattle.std.specs.Prelude.{◌≡◌, ◌≤◌, ◌<◌, ◌++◌, ℕ, zero, suc, Bool, true, false, List, [], ◌∷◌, ◌⊎◌, All, AllPairs, Contains, find, if◌then◌else◌, is_none, length, map, slice_get, take, Option, Some, None}
use Rattle.std.specs.Option.{option_and_then, option_map_or}
use Rattle.std.proofs.Common.{refl, sym, ◌∙◌, ap, subst, arith, inl, inr}
use Rattle.std.proofs.lemmas.List.{length-append, length-map}
use Rattle.std.proofs.lemmas.List.Elements.{All-head}
use Rattle.model_octets.proofs.PairLemmas.{pairs_head}
use Rattle.disk_model.specs.Disk.{Faults}
use Rattle.mdbox_base.specs.declared.entries.Highest.{Highest}
use Rattle.mdbox_base.specs.declared.ids.Uid.{Uid}
use Rattle.mdbox_base.specs.declared.replies.Refusal.{Refusal}
use Rattle.mdbox_base.specs.declared.replies.Refusal.TheVariants as refusal
use Rattle.mdbox_base.specs.declared.replies.Reply.{Reply}
use Rattle.mdbox_base.specs.declared.replies.Reply.TheVariants as reply
use Rattle.mdbox_base.specs.declared.requests.Request.{Request}
use Rattle.mdbox_base.specs.declared.requests.Request.TheVariants as request
use Rattle.model_lists.specs.Lists.{ListedMessage, Lists}
use Rattle.model_meaning.specs.BoxMeaning.{BoxMeaning}
use Rattle.model_meaning.specs.MapMeaning.{MapMeaning}
use Rattle.list_machine.specs.Machine.{Does, PartAnswers, add_last, add_message, expunge_from, has_name, is_message_of_uid, message_at, message_in, message_numbered}
use Rattle.list_machine.specs.Run.{EventPart, Last, SecondHalf, Run, RunEvent, before, source_of}
use Rattle.journal.specs.Events.{makes_step}
use Rattle.journal.specs.Journal.{AreSteps, Broken, IsLegal, IsStep, JournalStep, Reached, as_if, left_by, refusal_in, steps_of}
use Rattle.journal.specs.Makes.{AreTold, IsServed}
use Rattle.journal.proofs.AloneLemmas.{all_own}
use Rattle.mail_ops.specs.Copy.{copied_lists}
use Rattle.script_run.specs.One.{AreAlongMove, alone, moved_lists}
use Rattle.script_run.specs.Opening.{LogsShowLists}
use Rattle.script_run.proofs.AloneLemmas.{one_place, own_event}
use Rattle.script_run.proofs.CopyRunLemmas.{CopiesAlone, HasCopied, NamesNumber, agree_with_more, copies_alone, copy_place, expunged_alike, half_place, message_alike, names_number}
use Rattle.script_run.proofs.ToldLemmas.{RemovesByName, answers_of, copied_half, replied_one, step_answers}
use Rattle.script_run.proofs.ReachedLemmas.{IsWould, broken_at, few_of, would_at}

abbrev moving : List ℕ → Uid → List ℕ → Request
moving name uid target = request.Move name uid target

-- ---- which events of it make its steps

-- the run of a move alone
record IsMoveRun (name : List ℕ) (uid : Uid) (target : List ℕ) (run : Run) (start : Lists) (journal : List JournalStep) : Type 0 where
  copies : CopiesAlone true name uid target run start journal
  told : AreTold (alone (moving name uid target)) run journal

copy_at : (name : List ℕ) (uid : Uid) (target : List ℕ) (run : Run) (start : Lists) (journal : List JournalStep) → IsMoveRun name uid target run start journal → (n : ℕ) (event : RunEvent) → slice_get run.events n ≡ Some event → event.part ≡ Last → n ≡ 1
copy_at name uid target run start journal r n event at part = copy_place true name uid target run start journal r.copies n event at part

removal_at : (name : List ℕ) (uid : Uid) (target : List ℕ) (run : Run) (start : Lists) (journal : List JournalStep) → IsMoveRun name uid target run start journal → (n : ℕ) (event : RunEvent) → slice_get run.events n ≡ Some event → event.part ≡ SecondHalf → HasCopied name start run n
removal_at name uid target run start journal r n event at part = half_place true name uid target run start journal r.copies n event at part

-- ---- the second half finds its mailbox by number as it would by name

agree_copied : (name : List ℕ) (uid : Uid) (target : List ℕ) (number : ℕ) (start : Lists) → NamesNumber name number start → NamesNumber name number (copied_lists name uid target start)
agree_copied name uid target number start agree = by_found (message_at name uid.0 start)
  where
    by_found : (o : Option ListedMessage) → NamesNumber name number (option_map_or (λ m. add_message target m start) o start)
    by_found None = agree
    by_found (Some m) = agree_with_more name number target m start agree

-- in the lists with the copy the mailbox with this number is the one with the name
record FindsByName (name : List ℕ) (uid : Uid) (target : List ℕ) (start : Lists) (number : ℕ) : Type 0 where
  removed : expunge_from number uid.0 (copied_lists name uid target start) ≡ moved_lists name uid target start
  found : message_numbered number uid.0 (copied_lists name uid target start) ≡ message_at name uid.0 (copied_lists name uid target start)

finds_by_name : (name : List ℕ) (uid : Uid) (target : List ℕ) (run : Run) (start : Lists) (journal : List JournalStep) → CopiesAlone true name uid target run start journal → (n : ℕ) → HasCopied name start run n → (number : ℕ) → number ≡ source_of 0 (before 2 run) → FindsByName name uid target start number
finds_by_name name uid target run start journal r n h number is =
    let same : number ≡ h.mailbox.number = is ∙ h.source_is in
    let agree = agree_copied name uid target h.mailbox.number start (names_number name start h.mailbox r.shown.0 h.named) in
    record {
      removed = ap (λ (k : ℕ). expunge_from k uid.0 (copied_lists name uid target start)) same ∙ expunged_alike name h.mailbox.number uid.0 (copied_lists name uid target start) agree;
      found = ap (λ (k : ℕ). message_numbered k uid.0 (copied_lists name uid target start)) same ∙ message_alike name h.mailbox.number uid.0 (copied_lists name uid target start) agree;
    }

half_finds : (name : List ℕ) (uid : Uid) (target : List ℕ) (run : Run) (start : Lists) (journal : List JournalStep) → CopiesAlone true name uid target run start journal → (n : ℕ) (event : RunEvent) → slice_get run.events n ≡ Some event → event.part ≡ SecondHalf → FindsByName name uid target start (source_of event.request (before n run))
half_finds name uid target run start journal r n event at part =
    let h = half_place true name uid target run start journal r n event at part in
    let own = (own_event r.around r.after start (moving name uid target) run journal r.next n event at).0 in
    finds_by_name name uid target run start journal r n h (source_of event.request (before n run)) (ap (λ (q : ℕ). source_of q (before n run)) own ∙ ap (λ (k : ℕ). source_of 0 (before k run)) h.here)

pub removes_by_name : (name : List ℕ) (uid : Uid) (target : List ℕ) (run : Run) (start : Lists) (journal : List JournalStep) → CopiesAlone true name uid target run start journal → RemovesByName name uid target run start
removes_by_name name uid target run start journal r = λ n event at part. (half_finds name uid target run start journal r n event at part).removed

-- ---- what a step leaves

-- A step was refused; or it copied the message, or removed it, at an event of that part.
record IsMadeBy (run : Run) (step : JournalStep) (part : EventPart) : Type 0 where
  event : RunEvent
  event_is : slice_get run.events step.event ≡ Some event
  own : event.request ≡ 0
  part_is : event.part ≡ part
  free : event.refused ≡ None

record IsRefusedBy (run : Run) (old : Lists) (step : JournalStep) : Type 0 where
  event : RunEvent
  event_is : slice_get run.events step.event ≡ Some event
  why : Refusal
  refused : event.refused ≡ Some why
  same : step.left ≡ old

abbrev MoveStep : List ℕ → Uid → List ℕ → Run → Lists → JournalStep → Type 0
MoveStep name uid target run old step =
    IsRefusedBy run old step ⊎ ((IsMadeBy run step Last × (step.left ≡ copied_lists name uid target old)) ⊎ ((made : IsMadeBy run step SecondHalf) × ((step.left ≡ old) ⊎ (step.left ≡ expunge_from (source_of made.event.request (before step.event run)) uid.0 old))))

move_step : (name : List ℕ) (uid : Uid) (target : List ℕ) (run : Run) (old : Lists) (step : JournalStep) → IsStep run (alone (moving name uid target)) old step → MoveStep name uid target run old step
move_step name uid target run old step s =
    let found = one_place (moving name uid target) step.request s.asked s.request_is in
    let a = subst (λ (q : ℕ × Request). PartAnswers (before step.event run) s.event old q.1 s.event.part step.answer step.left) found.1 s.answers in
    by_answer s.event.part refl step.answer s.says a
  where
    own : s.event.request ≡ 0
    own = s.own_request ∙ (one_place (moving name uid target) step.request s.asked s.request_is).0

    removed : (gone : Bool) → step.left ≡ (if gone then old else expunge_from (source_of s.event.request (before step.event run)) uid.0 old) → (step.left ≡ old) ⊎ (step.left ≡ expunge_from (source_of s.event.request (before step.event run)) uid.0 old)
    removed true is = inl is
    removed false is = inr is

    by_does : (part : EventPart) → s.event.part ≡ part → (given : Reply) → s.event.refused ≡ None → Does (before step.event run) s.event old (moving name uid target) part given step.left
        → (IsMadeBy run step Last × (step.left ≡ copied_lists name uid target old)) ⊎ ((made : IsMadeBy run step SecondHalf) × ((step.left ≡ old) ⊎ (step.left ≡ expunge_from (source_of made.event.request (before step.event run)) uid.0 old)))
    by_does Last part (reply.Copied copied) free d =
        inl (record { event = s.event; event_is = s.event_is; own = own; part_is = part; free = free }, d.new_is ∙ sym (ap (λ (o : Option ListedMessage). option_map_or (λ m. add_message target m old) o old) d.source_is))
    by_does SecondHalf part (reply.Moved copied gone) free d = inr (record { event = s.event; event_is = s.event_is; own = own; part_is = part; free = free }, removed gone d.1.1)
    by_does part is given free d = absurd d

    by_answer : (part : EventPart) → s.event.part ≡ part → (answer : Reply) → s.event.refused ≡ refusal_in answer → PartAnswers (before step.event run) s.event old (moving name uid target) part answer step.left → MoveStep name uid target run old step
    by_answer part is (reply.Refused why) says a = inl (record { event = s.event; event_is = s.event_is; why = why; refused = says; same = a.1 })
    by_answer part is answer says a = inr (by_does part is answer says a.1)

-- ---- the lists that are reached

prefixes : (steps : List JournalStep) (p : ℕ) → length steps ≤ 2 → (take p steps ≡ []) ⊎ ((take p steps ≡ steps) ⊎ ((a b : JournalStep) × (steps ≡ a ∷ b ∷ []) × (take p steps ≡ a ∷ [])))
prefixes steps zero few = inl refl
prefixes [] (suc p) few = inl refl
prefixes (a ∷ []) (suc zero) few = inr (inl refl)
prefixes (a ∷ []) (suc (suc p)) few = inr (inl refl)
prefixes (a ∷ b ∷ []) (suc zero) few = inr (inr (a, b, refl, refl))
prefixes (a ∷ b ∷ []) (suc (suc zero)) few = inr (inl refl)
prefixes (a ∷ b ∷ []) (suc (suc (suc p))) few = inr (inl refl)
prefixes (a ∷ b ∷ c ∷ rest) (suc p) few = absurd (let n : suc (suc (suc (length rest))) ≤ 2 = few in omega (arith, n))

not_both : (run : Run) (n m : ℕ) (a b : RunEvent) (why : Refusal) → n ≡ m → slice_get run.events n ≡ Some a → slice_get run.events m ≡ Some b → a.refused ≡ None → b.refused ≡ Some why → ⊥
not_both run n m a b why same there here free refused =
    let k : Some a ≡ Some b = sym there ∙ (ap (slice_get run.events) same ∙ here) in
    let e : a ≡ b = cc k in
    let z : None ≡ Some why = sym free ∙ (ap (λ (x : RunEvent). x.refused) e ∙ refused) in
    cc z

only_in : (s t : JournalStep) → Contains (s ∷ []) t → s ≡ t
only_in s t (zero, l, is) = is
only_in s t (suc n, l, is) = absurd (omega (arith, l))

one_in : (a b t : JournalStep) → Contains (a ∷ b ∷ []) t → (a ≡ t) ⊎ (b ≡ t)
one_in a b t (zero, l, is) = inl is
one_in a b t (suc zero, l, is) = inr is
one_in a b t (suc (suc n), l, is) = absurd (omega (arith, l))

none_in : (t : JournalStep) → Contains [] t → ⊥
none_in t c = let l = c.1 in omega (arith, l)

-- So the step that copied it is in the journal.
copied_step : (name : List ℕ) (uid : Uid) (target : List ℕ) (run : Run) (start : Lists) (journal : List JournalStep) → IsMoveRun name uid target run start journal → (n : ℕ) → HasCopied name start run n → (t : JournalStep) × Contains journal t × (t.event ≡ 1)
copied_step name uid target run start journal r n h =
    let own = (own_event r.copies.around r.copies.after start (moving name uid target) run journal r.copies.next 1 h.event h.event_is).0 in
    r.told 1 h.event (1, moving name uid target) h.event_is (ap (slice_get (alone (moving name uid target))) own) (ap (λ (p : EventPart). makes_step (moving name uid target) p h.event.refused) h.part_is ∙ ap (λ (o : Option Refusal). makes_step (moving name uid target) Last o) h.free)

-- What the journal of a move has come to: no copy, though a step may have been refused; the copy; or both.
record HasNoCopy (run : Run) (start : Lists) (journal : List JournalStep) (left : Lists) : Type 0 where
  is : left ≡ start
  none : (t : JournalStep) → Contains journal t → t.event ≡ 1 → (e : RunEvent) → slice_get run.events 1 ≡ Some e → e.refused ≡ None → ⊥

record HasCopy (name : List ℕ) (uid : Uid) (target : List ℕ) (run : Run) (start left : Lists) : Type 0 where
  is : left ≡ copied_lists name uid target start
  event : RunEvent
  event_is : slice_get run.events 1 ≡ Some event
  free : event.refused ≡ None

record HasBoth (name : List ℕ) (uid : Uid) (target : List ℕ) (run : Run) (start left : Lists) : Type 0 where
  is : (left ≡ copied_lists name uid target start) ⊎ (left ≡ moved_lists name uid target start)
  event : RunEvent
  event_is : slice_get run.events 1 ≡ Some event
  free : event.refused ≡ None
  second : RunEvent
  second_is : slice_get run.events 2 ≡ Some second
  second_free : second.refused ≡ None

abbrev HasComeTo : List ℕ → Uid → List ℕ → Run → Lists → List JournalStep → Lists → Type 0
HasComeTo name uid target run start journal left = HasNoCopy run start journal left ⊎ (HasCopy name uid target run start left ⊎ HasBoth name uid target run start left)

along_so : (name : List ℕ) (uid : Uid) (target : List ℕ) (run : Run) (start : Lists) (journal : List JournalStep) (left : Lists) → HasComeTo name uid target run start journal left → AreAlongMove name uid target start left
along_so name uid target run start journal left (inl none) = inl none.is
along_so name uid target run start journal left (inr (inl copy)) = inr (inl copy.is)
along_so name uid target run start journal left (inr (inr both)) = inr both.is

along_removal : (name : List ℕ) (uid : Uid) (target : List ℕ) (number : ℕ) (start lists left : Lists) → expunge_from number uid.0 (copied_lists name uid target start) ≡ moved_lists name uid target start → lists ≡ copied_lists name uid target start → (left ≡ lists) ⊎ (left ≡ expunge_from number uid.0 lists)
    → (left ≡ copied_lists name uid target start) ⊎ (left ≡ moved_lists name uid target start)
along_removal name uid target number start lists left named copied (inl same) = inl (same ∙ copied)
along_removal name uid target number start lists left named copied (inr removed) = inr (removed ∙ (ap (expunge_from number uid.0) copied ∙ named))

-- one step
come_one : (name : List ℕ) (uid : Uid) (target : List ℕ) (run : Run) (start : Lists) (s : JournalStep) → IsMoveRun name uid target run start (s ∷ []) → MoveStep name uid target run start s → HasComeTo name uid target run start (s ∷ []) s.left
come_one name uid target run start s r (inl refused) = inl (record {
  is = refused.same;
  none = λ t c at e there free. not_both run 1 s.event e refused.event refused.why (sym (ap (λ (x : JournalStep). x.event) (only_in s t c) ∙ at)) there refused.event_is free refused.refused;
})
come_one name uid target run start s r (inr (inl copy)) =
    let one = copy_at name uid target run start (s ∷ []) r s.event copy.0.event copy.0.event_is copy.0.part_is in
    inr (inl (record { is = copy.1; event = copy.0.event; event_is = ap (slice_get run.events) (sym one) ∙ copy.0.event_is; free = copy.0.free }))
come_one name uid target run start s r (inr (inr removal)) =
    let h = removal_at name uid target run start (s ∷ []) r s.event removal.0.event removal.0.event_is removal.0.part_is in
    let t = copied_step name uid target run start (s ∷ []) r s.event h in
    let same = ap (λ (x : JournalStep). x.event) (only_in s t.0 t.1) in
    let two = h.here in
    let one = t.2 in
    absurd (omega (arith, same, two, one))

-- two steps
come_two : (name : List ℕ) (uid : Uid) (target : List ℕ) (run : Run) (start : Lists) (a b : JournalStep) → IsMoveRun name uid target run start (a ∷ b ∷ []) → a.event < b.event → MoveStep name uid target run start a → MoveStep name uid target run a.left b → HasComeTo name uid target run start (a ∷ b ∷ []) b.left
come_two name uid target run start a b r order (inl first) (inl second) = inl (record {
  is = second.same ∙ first.same;
  none = λ t c at e there free. elim (one_in a b t c) [
    | inl is ↦ not_both run 1 a.event e first.event first.why (sym (ap (λ (x : JournalStep). x.event) is ∙ at)) there first.event_is free first.refused
    | inr is ↦ not_both run 1 b.event e second.event second.why (sym (ap (λ (x : JournalStep). x.event) is ∙ at)) there second.event_is free second.refused
  ];
})
come_two name uid target run start a b r order (inl first) (inr (inl copy)) =
    let one = copy_at name uid target run start (a ∷ b ∷ []) r b.event copy.0.event copy.0.event_is copy.0.part_is in
    inr (inl (record { is = copy.1 ∙ ap (copied_lists name uid target) first.same; event = copy.0.event; event_is = ap (slice_get run.events) (sym one) ∙ copy.0.event_is; free = copy.0.free }))
come_two name uid target run start a b r order (inl first) (inr (inr removal)) =
    let h = removal_at name uid target run start (a ∷ b ∷ []) r b.event removal.0.event removal.0.event_is removal.0.part_is in
    let t = copied_step name uid target run start (a ∷ b ∷ []) r b.event h in
    let two = h.here in
    let one = t.2 in
    absurd (elim (one_in a b t.0 t.1) [
      | inl is ↦ not_both run 1 a.event h.event first.event first.why (sym (ap (λ (x : JournalStep). x.event) is ∙ one)) h.event_is first.event_is h.free first.refused
      | inr is ↦ let same = ap (λ (x : JournalStep). x.event) is in omega (arith, same, two, one)
    ])
come_two name uid target run start a b r order (inr (inl copy)) (inl second) =
    let one = copy_at name uid target run start (a ∷ b ∷ []) r a.event copy.0.event copy.0.event_is copy.0.part_is in
    inr (inl (record { is = second.same ∙ copy.1; event = copy.0.event; event_is = ap (slice_get run.events) (sym one) ∙ copy.0.event_is; free = copy.0.free }))
come_two name uid target run start a b r order (inr (inl copy)) (inr (inl again)) =
    let one = copy_at name uid target run start (a ∷ b ∷ []) r a.event copy.0.event copy.0.event_is copy.0.part_is in
    let two = copy_at name uid target run start (a ∷ b ∷ []) r b.event again.0.event again.0.event_is again.0.part_is in
    absurd (omega (arith, one, two, order))
come_two name uid target run start a b r order (inr (inl copy)) (inr (inr removal)) =
    let one = copy_at name uid target run start (a ∷ b ∷ []) r a.event copy.0.event copy.0.event_is copy.0.part_is in
    let h = removal_at name uid target run start (a ∷ b ∷ []) r b.event removal.0.event removal.0.event_is removal.0.part_is in
    inr (inr (record {
      is = along_removal name uid target _ start a.left b.left (removes_by_name name uid target run start (a ∷ b ∷ []) r.copies b.event removal.0.event removal.0.event_is removal.0.part_is) copy.1 removal.1;
      event = copy.0.event;
      event_is = ap (slice_get run.events) (sym one) ∙ copy.0.event_is;
      free = copy.0.free;
      second = removal.0.event;
      second_is = ap (slice_get run.events) (sym h.here) ∙ removal.0.event_is;
      second_free = removal.0.free;
    }))
come_two name uid target run start a b r order (inr (inr removal)) second =
    let h = removal_at name uid target run start (a ∷ b ∷ []) r a.event removal.0.event removal.0.event_is removal.0.part_is in
    let t = copied_step name uid target run start (a ∷ b ∷ []) r a.event h in
    let two = h.here in
    let one = t.2 in
    absurd (elim (one_in a b t.0 t.1) [
      | inl is ↦ let same = ap (λ (x : JournalStep). x.event) is in omega (arith, same, two, one)
      | inr is ↦ let same = ap (λ (x : JournalStep). x.event) is in omega (arith, same, two, one, order)
    ])

-- what the first of two leaves
first_left : (name : List ℕ) (uid : Uid) (target : List ℕ) (run : Run) (start : Lists) (a b : JournalStep) → IsMoveRun name uid target run start (a ∷ b ∷ []) → a.event < b.event → MoveStep name uid target run start a → AreAlongMove name uid target start a.left
first_left name uid target run start a b r order (inl refused) = inl refused.same
first_left name uid target run start a b r order (inr (inl copy)) = inr (inl copy.1)
first_left name uid target run start a b r order (inr (inr removal)) =
    let h = removal_at name uid target run start (a ∷ b ∷ []) r a.event removal.0.event removal.0.event_is removal.0.part_is in
    let t = copied_step name uid target run start (a ∷ b ∷ []) r a.event h in
    let two = h.here in
    let one = t.2 in
    absurd (elim (one_in a b t.0 t.1) [
      | inl is ↦ let same = ap (λ (x : JournalStep). x.event) is in omega (arith, same, two, one)
      | inr is ↦ let same = ap (λ (x : JournalStep). x.event) is in omega (arith, same, two, one, order)
    ])

-- the journal
come_to : (name : List ℕ) (uid : Uid) (target : List ℕ) (run : Run) (start : Lists) (journal : List JournalStep) → IsMoveRun name uid target run start journal → length journal ≤ 2 → AllPairs (λ a b. a.event < b.event) journal → AreSteps run (alone (moving name uid target)) start journal → HasComeTo name uid target run start journal (left_by start journal)
come_to name uid target run start [] r few order s = inl (record { is = refl; none = λ t c at e there free. none_in t c })
come_to name uid target run start (a ∷ []) r few order s = come_one name uid target run start a r (move_step name uid target run start a s.0)
come_to name uid target run start (a ∷ b ∷ []) r few order s =
    come_two name uid target run start a b r (All-head (λ (y : JournalStep). a.event < y.event) b [] (pairs_head (λ (x y : JournalStep). x.event < y.event) a (b ∷ []) order)) (move_step name uid target run start a s.0) (move_step name uid target run a.left b s.1.0)
come_to name uid target run start (a ∷ b ∷ c ∷ rest) r few order s = absurd (let n : suc (suc (suc (length rest))) ≤ 2 = few in omega (arith, n))

-- what stands before an event stays before it
taken_twice : {X : Type 0} → (n : ℕ) (xs ys : List X) (x : X) → slice_get xs n ≡ Some x → take n (take n xs ++ ys) ≡ take n xs
taken_twice zero xs ys x at = refl
taken_twice (suc n) [] ys x at = absurd (let k : None ≡ Some x = at in cc k)
taken_twice {X} (suc n) (y ∷ xs) ys x at = ap (λ (zs : List X). y ∷ zs) (taken_twice n xs ys x at)

-- the step that a failed append would have made, behind the journal
come_broken : (name : List ℕ) (uid : Uid) (target : List ℕ) (run : Run) (start : Lists) (journal : List JournalStep) (broken : Broken) (left : Lists) (b : JournalStep) → IsMoveRun name uid target run start journal → HasComeTo name uid target run start journal left → MoveStep name uid target (as_if run broken) left b
    → ((event : RunEvent) → slice_get (as_if run broken).events b.event ≡ Some event → IsWould run.events broken.place b.event event) → AreAlongMove name uid target start b.left
come_broken name uid target run start journal broken left b r come (inl refused) would = subst (AreAlongMove name uid target start) (sym refused.same) (along_so name uid target run start journal left come)
come_broken name uid target run start journal broken left b r come (inr (inl copy)) would = by_come come
  where
    w : IsWould run.events broken.place b.event copy.0.event
    w = would copy.0.event copy.0.event_is

    one : broken.place ≡ 1
    one = copy_at name uid target run start journal r broken.place w.failed w.failed_is (sym w.part_is ∙ copy.0.part_is)

    by_come : HasNoCopy run start journal left ⊎ (HasCopy name uid target run start left ⊎ HasBoth name uid target run start left) → AreAlongMove name uid target start b.left
    by_come (inl none) = inr (inl (copy.1 ∙ ap (copied_lists name uid target) none.is))
    by_come (inr (inl k)) = absurd (not_both run 1 broken.place k.event w.failed refusal.Stopped (sym one) k.event_is w.failed_is k.free w.stopped)
    by_come (inr (inr k)) = absurd (not_both run 1 broken.place k.event w.failed refusal.Stopped (sym one) k.event_is w.failed_is k.free w.stopped)
come_broken name uid target run start journal broken left b r come (inr (inr removal)) would = by_come come
  where
    w : IsWould run.events broken.place b.event removal.0.event
    w = would removal.0.event removal.0.event_is

    h : HasCopied name start run broken.place
    h = removal_at name uid target run start journal r broken.place w.failed w.failed_is (sym w.part_is ∙ removal.0.part_is)

    number : source_of removal.0.event.request (before b.event (as_if run broken)) ≡ source_of 0 (before 2 run)
    number =
        ap (λ (q : ℕ). source_of q (before b.event (as_if run broken))) removal.0.own
        ∙ (ap (λ (k : ℕ). source_of 0 (before k (as_if run broken))) w.here
        ∙ (ap (λ (es : List RunEvent). source_of 0 (record run { events = es })) (taken_twice broken.place run.events broken.events w.failed w.failed_is)
        ∙ ap (λ (k : ℕ). source_of 0 (before k run)) h.here))

    by_come : HasNoCopy run start journal left ⊎ (HasCopy name uid target run start left ⊎ HasBoth name uid target run start left) → AreAlongMove name uid target start b.left
    by_come (inl none) = let t = copied_step name uid target run start journal r broken.place h in absurd (none.none t.0 t.1 t.2 h.event h.event_is h.free)
    by_come (inr (inl k)) = inr (along_removal name uid target (source_of removal.0.event.request (before b.event (as_if run broken))) start left b.left (finds_by_name name uid target run start journal r.copies broken.place h _ number).removed k.is removal.1)
    by_come (inr (inr k)) = absurd (not_both run 2 broken.place k.second w.failed refusal.Stopped (sym h.here) k.second_is w.failed_is k.second_free w.stopped)

few_moves : (name : List ℕ) (uid : Uid) (target : List ℕ) (start : Lists) (run : Run) (journal : List JournalStep) (replies : List (Option Reply)) (old new : Faults) → IsLegal start (alone (moving name uid target)) run journal replies old new → length journal ≤ 2
few_moves name uid target start run journal replies old new l =
    let b = l.order.halves 0 (1, moving name uid target) refl in
    let total = sym (length-append (map (λ (s : JournalStep). s.half) (steps_of 0 journal)) b.0) ∙ ap length b.1 in
    let same = length-map (steps_of 0 journal) (λ (s : JournalStep). s.half) ∙ ap length (all_own run (1, moving name uid target) start journal l.steps) in
    omega (arith, total, same)

-- A crash leaves the lists before the move, those with the copy, or those that are moved.
pub reached_moved : (name : List ℕ) (uid : Uid) (target : List ℕ) (start : Lists) (run : Run) (journal : List JournalStep) (broken : Broken) (replies : List (Option Reply)) (old new : Faults) (first m : MapMeaning) (drawn : Highest) (calls : ℕ) (meanings : List BoxMeaning) → LogsShowLists first meanings start → IsServed start (alone (request.Move name uid target)) run journal broken replies old new first m drawn calls
    → (moment : ℕ) (lists : Lists) → Reached start run journal broken moment lists → AreAlongMove name uid target start lists
reached_moved name uid target start run journal broken replies old new first m drawn calls meanings shown s moment lists r = by_reach r
  where
    moves : IsMoveRun name uid target run start journal
    moves = record { copies = copies_alone true name uid target start run journal broken replies old new first m drawn calls meanings shown s; told = s.told }

    few : length journal ≤ 2
    few = few_moves name uid target start run journal replies old new s.legal

    come : HasComeTo name uid target run start journal (left_by start journal)
    come = come_to name uid target run start journal moves few s.legal.order.events s.legal.steps

    few_broken : length broken.steps ≤ 1
    few_broken = few_of broken.place broken.steps s.of_failure.once (broken_at (moving name uid target) run broken (left_by start journal) broken.steps s.of_failure.events s.of_failure.one s.broken_is s.of_failure.steps)

    by_broken : (steps : List JournalStep) → length steps ≤ 1 → AreSteps (as_if run broken) (alone (moving name uid target)) (left_by start journal) steps → All (λ x. broken.place ≤ x.event) steps → AreAlongMove name uid target start (left_by (left_by start journal) steps)
    by_broken [] few t place = along_so name uid target run start journal (left_by start journal) come
    by_broken (b ∷ []) few t place =
        come_broken name uid target run start journal broken (left_by start journal) b moves come (move_step name uid target (as_if run broken) (left_by start journal) b t.0)
        (λ event at. would_at run.events broken.events broken.place b.event event s.of_failure.events s.of_failure.one (All-head (λ (x : JournalStep). broken.place ≤ x.event) b [] place) at)
    by_broken (b ∷ more ∷ rest) few t place = absurd (let n : suc (suc (length rest)) ≤ 1 = few in omega (arith, n))

    -- behind the first of two steps
    by_first : (a b : JournalStep) → journal ≡ a ∷ b ∷ [] → AreAlongMove name uid target start a.left
    by_first a b is =
        let steps = subst (AreSteps run (alone (moving name uid target)) start) is s.legal.steps in
        let two = subst (λ (j : List JournalStep). IsMoveRun name uid target run start j) is moves in
        first_left name uid target run start a b two (All-head (λ (y : JournalStep). a.event < y.event) b [] (pairs_head (λ (x y : JournalStep). x.event < y.event) a (b ∷ []) (subst (AllPairs (λ x y. x.event < y.event)) is s.legal.order.events)))
        (move_step name uid target run start a steps.0)

    by_reach : Reached start run journal broken moment lists → AreAlongMove name uid target start lists
    by_reach (inl (p, acknowledged, is)) = subst (AreAlongMove name uid target start) (sym is) (elim (prefixes journal p few) [
      | inl none ↦ subst (λ (steps : List JournalStep). AreAlongMove name uid target start (left_by start steps)) (sym none) (inl refl)
      | inr (inl all) ↦ subst (λ (steps : List JournalStep). AreAlongMove name uid target start (left_by start steps)) (sym all) (along_so name uid target run start journal (left_by start journal) come)
      | inr (inr (a, b, two, one)) ↦ subst (λ (steps : List JournalStep). AreAlongMove name uid target start (left_by start steps)) (sym one) (by_first a b two)
    ])
    by_reach (inr (began, is)) = subst (AreAlongMove name uid target start) (sym is) (by_broken broken.steps few_broken s.broken_is s.of_failure.steps)

-- ---- its message is there

-- a message that is gone beside a copy was gone before
still_in : (uid : ℕ) (xs : List ListedMessage) (y : ListedMessage) → find (is_message_of_uid uid) (xs ++ y ∷ []) ≡ None → find (is_message_of_uid uid) xs ≡ None
still_in uid [] y e = refl
still_in uid (x ∷ xs) y e = by_test (is_message_of_uid uid x) e (λ k. still_in uid xs y k)
  where
    by_test : (b : Bool) → (if b then Some x else find (is_message_of_uid uid) (xs ++ y ∷ [])) ≡ None → (find (is_message_of_uid uid) (xs ++ y ∷ []) ≡ None → find (is_message_of_uid uid) xs ≡ None) → (if b then Some x else find (is_message_of_uid uid) xs) ≡ None
    by_test true k rest = absurd (cc k)
    by_test false k rest = rest k

gone_before : (name : List ℕ) (uid : ℕ) (target : List ℕ) (m : ListedMessage) (lists : Lists) → message_at name uid (add_message target m lists) ≡ None → message_at name uid lists ≡ None
gone_before name uid target m [] e = refl
gone_before name uid target m (box ∷ lists) e = by_target (has_name target box) e (λ k. gone_before name uid target m lists k)
  where
    by_name : (b : Bool) → option_and_then (message_in uid) (if b then Some (add_last m box) else find (has_name name) lists) ≡ None → option_and_then (message_in uid) (if b then Some box else find (has_name name) lists) ≡ None
    by_name true k = still_in uid box.messages (record m { uid = box.next_uid }) k
    by_name false k = k

    by_other : (b : Bool) → option_and_then (message_in uid) (if b then Some box else find (has_name name) (add_message target m lists)) ≡ None → (message_at name uid (add_message target m lists) ≡ None → message_at name uid lists ≡ None) → option_and_then (message_in uid) (if b then Some box else find (has_name name) lists) ≡ None
    by_other true k rest = k
    by_other false k rest = rest k

    by_target : (b : Bool) → message_at name uid (if b then add_last m box ∷ lists else box ∷ add_message target m lists) ≡ None → (message_at name uid (add_message target m lists) ≡ None → message_at name uid lists ≡ None) → message_at name uid (box ∷ lists) ≡ None
    by_target true k rest = by_name (has_name name box) k
    by_target false k rest = by_other (has_name name box) k rest

copied_gone : (name : List ℕ) (uid : Uid) (target : List ℕ) (lists : Lists) → message_at name uid.0 (copied_lists name uid target lists) ≡ None → message_at name uid.0 lists ≡ None
copied_gone name uid target lists e = by_found (message_at name uid.0 lists) refl
  where
    by_found : (o : Option ListedMessage) → message_at name uid.0 lists ≡ o → message_at name uid.0 lists ≡ None
    by_found None k = k
    by_found (Some m) k = gone_before name uid.0 target m lists (subst (λ (o : Option ListedMessage). message_at name uid.0 (option_map_or (λ x. add_message target x lists) o lists) ≡ None) k e)

-- the message that is copied is there
does_copy_from : (run : Run) (event : RunEvent) (lists : Lists) (name : List ℕ) (uid : Uid) (target : List ℕ) (given : Uid) (part : EventPart) (later : Lists) → Does run event lists (request.Move name uid target) part (reply.Copied given) later → message_at name uid.0 lists ≡ None → ⊥
does_copy_from run event lists name uid target given Last later d none = let z : None ≡ Some d.message = sym none ∙ d.source_is in cc z
does_copy_from run event lists name uid target given part later d none = absurd d

-- and one that had gone wasn't there
none_of : (o : Option ListedMessage) → true ≡ is_none o → o ≡ None
none_of None e = refl
none_of (Some m) e = absurd (cc e)

does_find_none : (run : Run) (event : RunEvent) (lists : Lists) (name : List ℕ) (uid : Uid) (target : List ℕ) (given : Uid) (part : EventPart) (later : Lists) → Does run event lists (request.Move name uid target) part (reply.Moved given true) later
    → (part ≡ SecondHalf) × (message_numbered (source_of event.request run) uid.0 lists ≡ None)
does_find_none run event lists name uid target given SecondHalf later d = (refl, none_of (message_numbered (source_of event.request run) uid.0 lists) d.1.0)
does_find_none run event lists name uid target given part later d = absurd d

-- Its two steps stand one behind the other, so the second finds the message that the first has copied.
pub never_gone : (name : List ℕ) (uid : Uid) (target : List ℕ) (start : Lists) (run : Run) (journal : List JournalStep) (broken : Broken) (moved : Uid) (old new : Faults) (first m : MapMeaning) (drawn : Highest) (calls : ℕ) (meanings : List BoxMeaning) → LogsShowLists first meanings start
    → IsServed start (alone (request.Move name uid target)) run journal broken (Some (reply.Moved moved true) ∷ []) old new first m drawn calls → ⊥
never_gone name uid target start run journal broken moved old new first m drawn calls meanings shown served = by_journal journal served.legal.steps (replied_one start (moving name uid target) run journal (reply.Moved moved true) old new served.legal)
  where
    copies : CopiesAlone true name uid target run start journal
    copies = copies_alone true name uid target start run journal broken (Some (reply.Moved moved true) ∷ []) old new first m drawn calls meanings shown served

    by_journal : (steps : List JournalStep) → AreSteps run (alone (moving name uid target)) start steps → answers_of steps ≡ reply.Copied moved ∷ reply.Moved moved true ∷ [] → ⊥
    by_journal [] s said = cc said
    by_journal (a ∷ []) s said = let k : a.answer ∷ [] ≡ reply.Copied moved ∷ reply.Moved moved true ∷ [] = said in let z : [] ≡ reply.Moved moved true ∷ [] = cc k in cc z
    by_journal (a ∷ b ∷ c ∷ rest) s said =
        let k : a.answer ∷ b.answer ∷ c.answer ∷ answers_of rest ≡ reply.Copied moved ∷ reply.Moved moved true ∷ [] = said in
        let z : b.answer ∷ c.answer ∷ answers_of rest ≡ reply.Moved moved true ∷ [] = cc k in
        let y : c.answer ∷ answers_of rest ≡ [] = cc z in
        cc y
    by_journal (a ∷ b ∷ []) s said =
        let k : a.answer ∷ b.answer ∷ [] ≡ reply.Copied moved ∷ reply.Moved moved true ∷ [] = said in
        let first : a.answer ≡ reply.Copied moved = cc k in
        let second : b.answer ≡ reply.Moved moved true = cc k in
        let x = step_answers run (moving name uid target) start a s.0 in
        let y = step_answers run (moving name uid target) a.left b s.1.0 in
        let d = (subst (λ (r : Reply). PartAnswers (before a.event run) x.event start (moving name uid target) x.event.part r a.left) first x.answers).1 in
        let f = (subst (λ (r : Reply). PartAnswers (before b.event run) y.event a.left (moving name uid target) y.event.part r b.left) second y.answers).1 in
        let copied = copied_half (before a.event run) x.event name uid target x.event.part moved start a.left d in
        let none = does_find_none (before b.event run) y.event a.left name uid target moved y.event.part b.left f in
        let finds = half_finds name uid target run start journal copies b.event y.event y.event_is none.0 in
        let gone = sym finds.found ∙ subst (λ (ls : Lists). message_numbered (source_of y.event.request (before b.event run)) uid.0 ls ≡ None) copied none.1 in
        does_copy_from (before a.event run) x.event start name uid target moved x.event.part a.left d (copied_gone name uid target start gone)
