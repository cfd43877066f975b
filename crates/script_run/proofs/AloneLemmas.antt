-- A request alone: of which events its run consists, and what it is replied by the first.
use Rattle.std.specs.Prelude.{◌≡◌, ◌≤◌, ◌+◌, ◌==◌, ℕ, zero, suc, Bool, true, false, cond, List, [], ◌∷◌, ◌⊎◌, IfSome, count_by, filter, if◌then◌else◌, nat_lt, length, map, slice_get, take, Option, Some, None, All}
use Rattle.std.proofs.Common.{refl, sym, ◌∙◌, ap, subst, arith, inl, inr}
use Rattle.std.proofs.lemmas.Grind.{common_steps}
use Rattle.std.proofs.lemmas.Option.{slice_get_within}
use Rattle.std.proofs.lemmas.List.Sums.{sum_by-cons}
use Rattle.std.specs.Option.{option_or}
use Rattle.std.proofs.lemmas.List.Elements.{All-cons, All-nil}
use Rattle.disk_model.specs.Disk.{Faults, History, IsIdle}
use Rattle.mdbox_base.specs.declared.replies.Refusal.{Refusal}
use Rattle.mdbox_base.specs.declared.replies.Refusal.TheVariants as refusal
use Rattle.mdbox_base.specs.declared.replies.Reply.{Reply}
use Rattle.mdbox_base.specs.declared.replies.Reply.TheVariants as reply
use Rattle.mdbox_base.specs.declared.requests.Request.{Request}
use Rattle.mdbox_base.specs.declared.requests.Request.TheVariants as request
use Rattle.mdbox_base.specs.declared.script.JournalEntry.{JournalEntry}
use Rattle.model_lists.specs.Lists.{Lists}
use Rattle.list_machine.specs.Machine.{Answers, is_step}
use Rattle.list_machine.specs.Run.{EventPart, First, GivesBack, Last, RemovesLog, SecondHalf, Run, RunEvent, before, own_events, first_in, reply_of, StartsOver}
use Rattle.journal.specs.Events.{Around, IsEvent, MayMeet, behind_addition, behind_copy, behind_delete, behind_event, behind_expunge, behind_make, behind_move, ends_with_count, is_elsewhere, is_fault, is_faulted, is_overtaken, next_part, reads_octets}
use Rattle.journal.specs.GoesOn.{IsOneStep}
use Rattle.journal.specs.Journal.{Requests, AreSteps, Broken, IsReplyOf, JournalStep, Reached, as_if, is_read_fault, left_by}
use Rattle.journal.specs.Makes.{AreNextEvents, lists_before}
use Rattle.journal.proofs.AloneLemmas.{reply_alone}
use Rattle.journal.proofs.FaultLemmas.{faults_have_events}
use Rattle.store_core.specs.Value.{StoreValue, indexes_of}
use Rattle.script_run.specs.Done.{IsScriptDone, MayRead}
use Rattle.script_run.specs.LeftOpen.{IsRequestDone, IsServedOpen}
use Rattle.script_run.specs.One.{AreListsTold, HasOneEvent, IsAnsweredFirst, IsUnanswered, MakesSteps, alone}
use Rattle.script_run.specs.Opening.{LogsShowLists}
use Rattle.script_run.specs.Script.{only_reads, has_fetch, IsRefusedAtOnce}
use Rattle.script_run.proofs.SomeListsLemmas.{some_lists}
use Rattle.script_run.proofs.ToldLemmas.{IsMove, replied_one, step_answers, step_told}

-- ---- its events

pub one_place : (asked : Request) (n : ℕ) (found : ℕ × Request) → slice_get (alone asked) n ≡ Some found → (n ≡ 0) × (found ≡ (1, asked))
one_place asked n found e =
    let lt = slice_get_within ((1, asked) ∷ []) n found e in
    let none : n ≡ 0 = omega (arith, lt) in
    let h : Some found ≡ Some (1, asked) = sym e ∙ ap (λ (k : ℕ). slice_get ((1, asked) ∷ []) k) none in
    (none, cc h)

-- each event is one of the request
pub own_event : (around after : ℕ → Around) (start : Lists) (asked : Request) (run : Run) (journal : List JournalStep) → AreNextEvents around after (alone asked) start run journal → (n : ℕ) (event : RunEvent) → slice_get run.events n ≡ Some event
    → (event.request ≡ 0) × IsEvent (around n) (after n) (before n run) (lists_before start journal n) asked event
own_event around after start asked run journal next n event at =
    let k = next n event at in
    let one = one_place asked event.request k.asked k.request_is in
    (one.0, subst (λ (q : ℕ × Request). IsEvent (around n) (after n) (before n run) (lists_before start journal n) q.1 event) one.1 k.is_event)

-- no event stands before one that finds none of its request
starts : (events : List RunEvent) (n : ℕ) (event : RunEvent) → slice_get events n ≡ Some event → ((k : ℕ) (e : RunEvent) → slice_get events k ≡ Some e → e.request ≡ 0) → filter (λ e. e.request == 0) (take n events) ≡ [] → n ≡ 0
starts events zero event at all none = refl
starts [] (suc n) event at all none = absurd (let e : None ≡ Some event = at in cc e)
starts (x ∷ events) (suc n) event at all none = absurd (by_test (x.request == 0) (test x.request (all 0 x refl)) none)
  where
    by_test : (b : Bool) → b ≡ true → cond b (x ∷ filter (λ e. e.request == 0) (take n events)) (filter (λ e. e.request == 0) (take n events)) ≡ [] → ⊥
    by_test true t e = cc e
    by_test false t e = cc t

    test : (k : ℕ) → k ≡ 0 → (k == 0) ≡ true
    test k e = grind (arith, common_steps, e)

-- ---- requests of one event

none_behind : (asked : Request) → HasOneEvent asked → (around : Around) (run : Run) (event : RunEvent) (why : Option Refusal) (part : EventPart) → behind_event around run asked event why ≡ Some part → ⊥
none_behind (request.List name) one around run event None part is = let e : None ≡ Some part = is in cc e
none_behind (request.List name) one around run event (Some why) part is = let e : None ≡ Some part = is in cc e
none_behind (request.Flag name uid flags) one around run event None part is = let e : None ≡ Some part = is in cc e
none_behind (request.Flag name uid flags) one around run event (Some why) part is = let e : None ≡ Some part = is in cc e
none_behind (request.Keywords name uid words) one around run event None part is = let e : None ≡ Some part = is in cc e
none_behind (request.Keywords name uid words) one around run event (Some why) part is = let e : None ≡ Some part = is in cc e
none_behind request.Counts one around run event None part is = let e : None ≡ Some part = is in cc e
none_behind request.Counts one around run event (Some why) part is = let e : None ≡ Some part = is in cc e
none_behind other one around run event why part is = one

only_first : (asked : Request) → HasOneEvent asked → (around : Around) (run : Run) (own : List RunEvent) (part : EventPart) → next_part around run asked own ≡ Some part → (own ≡ []) × (part ≡ First)
only_first asked one around run [] part is = (refl, (let e : Some First ≡ Some part = is in let f : First ≡ part = cc e in sym f))
only_first asked one around run (event ∷ []) part is = absurd (none_behind asked one around run event event.refused part is)
only_first asked one around run (event ∷ more ∷ rest) part is = absurd (let h = only_first asked one around run (more ∷ rest) part is in let e : more ∷ rest ≡ [] = h.0 in cc e)

-- their runs have one event at the most
pub first_only : (around after : ℕ → Around) (start : Lists) (asked : Request) (run : Run) (journal : List JournalStep) → HasOneEvent asked → AreNextEvents around after (alone asked) start run journal → (n : ℕ) (event : RunEvent) → slice_get run.events n ≡ Some event → n ≡ 0
first_only around after start asked run journal one next n event at =
    let k = own_event around after start asked run journal next n event at in
    let first = only_first asked one (around n) (before n run) (own_events event.request (before n run)) event.part k.1.part_is in
    starts run.events n event at (λ m e there. (own_event around after start asked run journal next m e there).0) (ap (λ (r : ℕ). own_events r (before n run)) (sym k.0) ∙ first.0)

one_at_most : (events : List RunEvent) → ((n : ℕ) (e : RunEvent) → slice_get events n ≡ Some e → n ≡ 0) → (events ≡ []) ⊎ ((e : RunEvent) × (events ≡ e ∷ []))
one_at_most [] all = inl refl
one_at_most (x ∷ []) all = inr (x, refl)
one_at_most (x ∷ y ∷ rest) all = absurd (let n : 1 ≡ 0 = all 1 y refl in omega (arith, n))

-- no part of them reads octets
calm_expunge : (part next : EventPart) → behind_expunge part ≡ Some next → (asked : Request) → reads_octets GivesBack asked ≡ false → reads_octets next asked ≡ false
calm_expunge First next is asked calm = let k : Some GivesBack ≡ Some next = is in let z : GivesBack ≡ next = cc k in ap (λ (p : EventPart). reads_octets p asked) (sym z) ∙ calm
calm_expunge part next is asked calm = absurd (let k : None ≡ Some next = is in cc k)

calm_delete : (part next : EventPart) → behind_delete part ≡ Some next → (name : List ℕ) → reads_octets next (request.Delete name) ≡ false
calm_delete First next is name = let k : Some RemovesLog ≡ Some next = is in let z : RemovesLog ≡ next = cc k in ap (λ (p : EventPart). reads_octets p (request.Delete name)) (sym z)
calm_delete part next is name = absurd (let k : None ≡ Some next = is in cc k)

calm_copy : (elsewhere ends : Bool) (part next : EventPart) → behind_copy elsewhere ends part ≡ Some next → (asked : Request) → reads_octets First asked ≡ false → reads_octets Last asked ≡ false → reads_octets StartsOver asked ≡ false → reads_octets GivesBack asked ≡ false → reads_octets next asked ≡ false
calm_copy true ends First next is asked first last over back = let k : Some StartsOver ≡ Some next = is in let z : StartsOver ≡ next = cc k in ap (λ (p : EventPart). reads_octets p asked) (sym z) ∙ over
calm_copy false ends First next is asked first last over back = let k : Some Last ≡ Some next = is in let z : Last ≡ next = cc k in ap (λ (p : EventPart). reads_octets p asked) (sym z) ∙ last
calm_copy elsewhere ends StartsOver next is asked first last over back = let k : Some GivesBack ≡ Some next = is in let z : GivesBack ≡ next = cc k in ap (λ (p : EventPart). reads_octets p asked) (sym z) ∙ back
calm_copy elsewhere true GivesBack next is asked first last over back = absurd (let k : None ≡ Some next = is in cc k)
calm_copy elsewhere false GivesBack next is asked first last over back = let k : Some First ≡ Some next = is in let z : First ≡ next = cc k in ap (λ (p : EventPart). reads_octets p asked) (sym z) ∙ first
calm_copy elsewhere ends part next is asked first last over back = absurd (let k : None ≡ Some next = is in cc k)

calm_make : (overtaken : Bool) (part next : EventPart) → behind_make overtaken part ≡ Some next → (asked : Request) → reads_octets First asked ≡ false → reads_octets Last asked ≡ false → reads_octets StartsOver asked ≡ false → reads_octets next asked ≡ false
calm_make true First next is asked first last over = let k : Some StartsOver ≡ Some next = is in let z : StartsOver ≡ next = cc k in ap (λ (p : EventPart). reads_octets p asked) (sym z) ∙ over
calm_make false First next is asked first last over = let k : Some Last ≡ Some next = is in let z : Last ≡ next = cc k in ap (λ (p : EventPart). reads_octets p asked) (sym z) ∙ last
calm_make overtaken StartsOver next is asked first last over = let k : Some First ≡ Some next = is in let z : First ≡ next = cc k in ap (λ (p : EventPart). reads_octets p asked) (sym z) ∙ first
calm_make overtaken part next is asked first last over = absurd (let k : None ≡ Some next = is in cc k)

calm_addition : (part : EventPart) (why : Refusal) (next : EventPart) → behind_addition part why ≡ Some next → (asked : Request) → reads_octets GivesBack asked ≡ false → reads_octets next asked ≡ false
calm_addition Last refusal.Stopped next is asked calm = absurd (let k : None ≡ Some next = is in cc k)
calm_addition Last why next is asked calm = let k : Some GivesBack ≡ Some next = is in let z : GivesBack ≡ next = cc k in ap (λ (p : EventPart). reads_octets p asked) (sym z) ∙ calm
calm_addition StartsOver refusal.Stopped next is asked calm = absurd (let k : None ≡ Some next = is in cc k)
calm_addition StartsOver why next is asked calm = let k : Some GivesBack ≡ Some next = is in let z : GivesBack ≡ next = cc k in ap (λ (p : EventPart). reads_octets p asked) (sym z) ∙ calm
calm_addition part why next is asked calm = absurd (let k : None ≡ Some next = is in cc k)

calm_move : (elsewhere ends : Bool) (event : RunEvent) (part next : EventPart) → behind_move elsewhere ends event part ≡ Some next → (asked : Request) → reads_octets First asked ≡ false → reads_octets Last asked ≡ false → reads_octets StartsOver asked ≡ false → reads_octets SecondHalf asked ≡ false → reads_octets GivesBack asked ≡ false → reads_octets next asked ≡ false
calm_move elsewhere ends event Last next is asked first last over second back = let k : Some SecondHalf ≡ Some next = is in let z : SecondHalf ≡ next = cc k in ap (λ (p : EventPart). reads_octets p asked) (sym z) ∙ second
calm_move elsewhere ends event SecondHalf next is asked first last over second back = by_test (nat_lt 0 (length event.box_entries)) is
  where
    by_test : (b : Bool) → (if b then Some GivesBack else None) ≡ Some next → reads_octets next asked ≡ false
    by_test true is = let k : Some GivesBack ≡ Some next = is in let z : GivesBack ≡ next = cc k in ap (λ (p : EventPart). reads_octets p asked) (sym z) ∙ back
    by_test false is = absurd (let k : None ≡ Some next = is in cc k)
calm_move elsewhere ends event part next is asked first last over second back = calm_copy elsewhere ends part next is asked first last over back

calm_behind : (asked : Request) → MakesSteps asked → (around : Around) (run : Run) (event : RunEvent) (why : Option Refusal) (part : EventPart) → behind_event around run asked event why ≡ Some part → reads_octets part asked ≡ false
calm_behind (request.Expunge name uid) one around run event None part is = calm_expunge event.part part is (request.Expunge name uid) refl
calm_behind (request.Expunge name uid) one around run event (Some why) part is = absurd (let k : None ≡ Some part = is in cc k)
calm_behind (request.Make name) one around run event None part is = calm_make (is_overtaken run event.request) event.part part is (request.Make name) refl refl refl
calm_behind (request.Make name) one around run event (Some why) part is = absurd (let k : None ≡ Some part = is in cc k)
calm_behind (request.Copy name uid target) one around run event None part is = calm_copy (is_elsewhere run event.request name) (ends_with_count run event.request) event.part part is (request.Copy name uid target) refl refl refl refl
calm_behind (request.Copy name uid target) one around run event (Some why) part is = calm_addition event.part why part is (request.Copy name uid target) refl
calm_behind (request.Move name uid target) one around run event None part is = calm_move (is_elsewhere run event.request name) (ends_with_count run event.request) event event.part part is (request.Move name uid target) refl refl refl refl refl
calm_behind (request.Move name uid target) one around run event (Some why) part is = calm_addition event.part why part is (request.Move name uid target) refl
calm_behind (request.Delete name) one around run event None part is = calm_delete event.part part is name
calm_behind (request.Delete name) one around run event (Some why) part is = absurd (let k : None ≡ Some part = is in cc k)
calm_behind (request.Rename name target) one around run event None part is = absurd (let k : None ≡ Some part = is in cc k)
calm_behind (request.Rename name target) one around run event (Some why) part is = absurd (let k : None ≡ Some part = is in cc k)
calm_behind (request.List name) one around run event why part is = absurd (none_behind (request.List name) one around run event why part is)
calm_behind (request.Flag name uid flags) one around run event why part is = absurd (none_behind (request.Flag name uid flags) one around run event why part is)
calm_behind (request.Keywords name uid words) one around run event why part is = absurd (none_behind (request.Keywords name uid words) one around run event why part is)
calm_behind request.Counts one around run event why part is = absurd (none_behind request.Counts one around run event why part is)
calm_behind other one around run event why part is = absurd one

calm_first : (asked : Request) → MakesSteps asked → reads_octets First asked ≡ false
calm_first request.Purge one = absurd one
calm_first asked one = refl

calm_parts : (asked : Request) → MakesSteps asked → (around : Around) (run : Run) (own : List RunEvent) (part : EventPart) → next_part around run asked own ≡ Some part → reads_octets part asked ≡ false
calm_parts asked one around run [] part is = let k : Some First ≡ Some part = is in let z : First ≡ part = cc k in ap (λ (p : EventPart). reads_octets p asked) (sym z) ∙ calm_first asked one
calm_parts asked one around run (event ∷ []) part is = calm_behind asked one around run event event.refused part is
calm_parts asked one around run (event ∷ more ∷ rest) part is = calm_parts asked one around run (more ∷ rest) part is

pub one_makes : (asked : Request) → HasOneEvent asked → MakesSteps asked
one_makes (request.List name) one = one
one_makes (request.Flag name uid flags) one = one
one_makes (request.Keywords name uid words) one = one
one_makes request.Counts one = one
one_makes other one = absurd one

pub fetches_none : (asked : Request) → MakesSteps asked → has_fetch (alone asked) ≡ false
fetches_none (request.Fetch name uid) one = absurd one
fetches_none asked one = refl

-- one that fetches no message
pub may_read : (asked : Request) → has_fetch (alone asked) ≡ false → (lists : Lists) (old : Option History) → MayRead (alone asked) lists old
may_read asked none lists old = λ fetches. absurd (let e : true ≡ false = sym fetches ∙ none in cc e)

-- ---- no read fault is replied

abbrev faulted_once : RunEvent → ℕ
faulted_once event = cond (is_faulted event) 1 0

none_faulted : (events : List RunEvent) → ((n : ℕ) (e : RunEvent) → slice_get events n ≡ Some e → is_faulted e ≡ false) → count_by is_faulted events ≡ 0
none_faulted [] none = refl
none_faulted (x ∷ events) none =
    let all : count_by is_faulted (x ∷ events) ≡ faulted_once x + count_by is_faulted events = sum_by-cons faulted_once x events in
    let first : faulted_once x ≡ 0 = ap (λ (b : Bool). let once : ℕ = cond b 1 0 in once) (none 0 x refl) in
    let rest = none_faulted events (λ n e at. none (suc n) e at) in
    omega (arith, all, first, rest)

unfaulted : (part : EventPart) (asked : Request) → reads_octets part asked ≡ false → (why : Option Refusal) → IfSome why (MayMeet part asked) → is_fault why ≡ false
unfaulted part asked none None may = refl
unfaulted part asked none (Some refusal.ReadFault) may = absurd (let e : false ≡ true = sym none ∙ may in cc e)
unfaulted part asked none (Some why) may = refl

pub unread : (asked : Request) (given : Reply) (entries : List JournalEntry) (old new : Option History) (began now : Faults) → IsScriptDone (alone asked) (given ∷ []) entries old new began now → MakesSteps asked → given ≡ reply.Refused refusal.ReadFault → ⊥
unread asked given entries old new began now done one is =
    let some = some_lists old done.m done.meanings done.opened in
    let s = done.serves some.0 some.1 (may_read asked (fetches_none asked one) some.0 old) in
    let few : count_by is_read_fault (Some given ∷ []) ≤ count_by is_faulted s.run.events = faults_have_events s.served.around s.served.after (alone asked) some.0 s.run s.journal (Some given ∷ []) s.served.next s.served.given in
    let none = none_faulted s.run.events (λ n e at.
    let k = (own_event s.served.around s.served.after some.0 asked s.run s.journal s.served.next n e at).1 in
    unfaulted e.part asked (calm_parts asked one (s.served.around n) (before n s.run) (own_events e.request (before n s.run)) e.part k.part_is) e.refused k.may) in
    let told : count_by is_read_fault (Some given ∷ []) ≡ 1 = ap (λ (r : Reply). count_by is_read_fault (Some r ∷ [])) is in
    omega (arith, few, none, told)

-- ---- what it is replied

-- no memory, a stopped store, a read fault, or a step
Ends : Request → Reply → Type 0
Ends asked given = IsUnanswered given ⊎ ((given ≡ reply.Refused refusal.ReadFault) ⊎ IsOneStep asked given)

ends_by : (asked : Request) (given : Reply) (answers : List Reply) → HasOneEvent asked → IsReplyOf asked answers given → Ends asked given
unfolding Ends
ends_by (request.Fetch name uid) given answers one r = absurd one
ends_by (request.Move name uid target) given answers one r = absurd one
ends_by asked (reply.Refused refusal.NoMemory) answers one r = inl (inl refl)
ends_by asked (reply.Refused refusal.ReadFault) answers one r = inr (inl refl)
ends_by asked (reply.Refused refusal.Stopped) answers one r = inl (inr refl)
ends_by asked (reply.Refused (refusal.Damaged file offset)) answers one r = absurd r
ends_by asked (reply.Refused why) answers one r = inr (inr refl)
ends_by asked given answers one r = inr (inr tt)

answered : (asked : Request) (given : Reply) (entries : List JournalEntry) (old new : Option History) (began now : Faults) → (done : IsScriptDone (alone asked) (given ∷ []) entries old new began now) → HasOneEvent asked → (lists : Lists) → LogsShowLists done.m done.meanings lists → IsOneStep asked given
    → IsAnsweredFirst asked done.m lists given
answered asked given entries old new began now done one lists shows step =
    let may = may_read asked (fetches_none asked (one_makes asked one)) lists old in
    let s = done.serves lists shows may in
    let a = reply_alone lists (1, asked) s.run s.journal given began now s.served.legal step in
    let k = own_event s.served.around s.served.after lists asked s.run s.journal s.served.next a.1.place a.1.event a.1.event_is in
    let first = only_first asked one (s.served.around a.1.place) (before a.1.place s.run) (own_events a.1.event.request (before a.1.place s.run)) a.1.event.part k.1.part_is in
    let none = first_only s.served.around s.served.after lists asked s.run s.journal one s.served.next a.1.place a.1.event a.1.event_is in
    record {
      run = before 0 s.run;
      event = a.1.event;
      left = a.0;
      map_is = s.served.begins.map_is ∙ done.begins lists shows may;
      part_is = first.1;
      answers = subst (λ (n : ℕ). Answers (before n s.run) lists asked a.1.event given a.0) none a.1.answers;
    }

-- From lists that the logs show it is replied what the machine answers at its first event; or that there is no memory, or that the store
-- is stopped.
pub answered_first : (asked : Request) (given : Reply) (entries : List JournalEntry) (old new : Option History) (began now : Faults) → (done : IsScriptDone (alone asked) (given ∷ []) entries old new began now) → HasOneEvent asked → (lists : Lists) → LogsShowLists done.m done.meanings lists
    → IsUnanswered given ⊎ IsAnsweredFirst asked done.m lists given
unfolding Ends
answered_first asked given entries old new began now done one lists shows =
    let s = done.serves lists shows (may_read asked (fetches_none asked (one_makes asked one)) lists old) in
    by_end (ends_by asked given _ one (replied_one lists asked s.run s.journal given began now s.served.legal))
  where
    by_end : IsUnanswered given ⊎ ((given ≡ reply.Refused refusal.ReadFault) ⊎ IsOneStep asked given) → IsUnanswered given ⊎ IsAnsweredFirst asked done.m lists given
    by_end (inl none) = inl none
    by_end (inr (inl read)) = absurd (unread asked given entries old new began now done (one_makes asked one) read)
    by_end (inr (inr step)) = inr (answered asked given entries old new began now done one lists shows step)

-- ---- a request that only reads leaves the lists, and so do a resync and a purge

abbrev pub leaves_lists : Request → Bool
leaves_lists request.Resync = true
leaves_lists request.Purge = true
leaves_lists asked = only_reads asked

pub reads_leave : (asked : Request) → only_reads asked ≡ true → leaves_lists asked ≡ true
reads_leave request.Resync reads = refl
reads_leave request.Purge reads = refl
reads_leave asked reads = reads

reads_still : (asked : Request) (given : Reply) (old new : Lists) → leaves_lists asked ≡ true → AreListsTold asked given old new → new ≡ old
reads_still (request.List name) given old new reads told = told
reads_still (request.Fetch name uid) given old new reads told = told
reads_still request.Counts given old new reads told = told
reads_still request.Resync given old new reads told = told
reads_still request.Purge given old new reads told = told
reads_still other given old new reads told = absurd (let e : false ≡ true = reads in cc e)

moves_none : (asked : Request) → leaves_lists asked ≡ true → IsMove asked → ⊥
moves_none (request.Move name uid target) reads m = let e : false ≡ true = reads in cc e
moves_none asked reads m = m

pub left_still : (asked : Request) (run : Run) (start : Lists) (steps : List JournalStep) → leaves_lists asked ≡ true → AreSteps run (alone asked) start steps → left_by start steps ≡ start
left_still asked run start [] reads s = refl
left_still asked run start (step ∷ steps) reads s =
    let a = step_answers run asked start step s.0 in
    left_still asked run step.left steps reads s.1 ∙ reads_still asked step.answer start step.left reads (step_told asked (before step.event run) a.event a.event.part step.answer start step.left (moves_none asked reads) a.answers)

steps_taken : (asked : Request) (run : Run) (start : Lists) (steps : List JournalStep) (p : ℕ) → AreSteps run (alone asked) start steps → AreSteps run (alone asked) start (take p steps)
steps_taken asked run start steps zero s = tt
steps_taken asked run start [] (suc p) s = tt
steps_taken asked run start (step ∷ steps) (suc p) s = (s.0, steps_taken asked run step.left steps p s.1)

pub reached_still : (asked : Request) (run : Run) (start : Lists) (journal : List JournalStep) (broken : Broken) (m : ℕ) (lists : Lists) → leaves_lists asked ≡ true → AreSteps run (alone asked) start journal → AreSteps (as_if run broken) (alone asked) (left_by start journal) broken.steps
    → Reached start run journal broken m lists → lists ≡ start
reached_still asked run start journal broken m lists reads s t (inl (p, acknowledged, is)) = is ∙ left_still asked run start (take p journal) reads (steps_taken asked run start journal p s)
reached_still asked run start journal broken m lists reads s t (inr (began, is)) = is ∙ (left_still asked (as_if run broken) (left_by start journal) broken.steps reads t ∙ left_still asked run start journal reads s)

-- ---- a script of one request has one reply

pub one_given : (asked : Request) (script : Requests) (given : List Reply) → script ≡ alone asked → length given ≡ length script → (one : Reply) × (given ≡ one ∷ [])
one_given asked script [] is each = absurd (let n : length script ≡ 1 = ap length is in let e : 0 ≡ length script = each in omega (arith, n, e))
one_given asked script (one ∷ []) is each = (one, refl)
one_given asked script (one ∷ more ∷ rest) is each = absurd (let n : length script ≡ 1 = ap length is in let e : suc (suc (length rest)) ≡ length script = each in omega (arith, n, e))

pub request_here : {D : Type 0} → (history : D → Option History) (faults : D → Faults) (asked : Request) (script : Requests) (given : List Reply) (replies : List (Option Reply)) (one : Reply) (entries : List JournalEntry) (old : Option History) (began : Faults) (store : StoreValue D) → script ≡ alone asked → replies ≡ map Some given → replies ≡ Some one ∷ []
    → IsServedOpen script given entries old (history store.disk) began (faults store.disk) store → (own : IsRequestDone asked one old (history store.disk) began (faults store.disk)) × (own.entries ≡ entries)
request_here history faults asked script given replies one entries old began store is all only served =
    let o = one_given asked script given is served.done.each in
    let same : Some o.0 ∷ [] ≡ Some one ∷ [] = sym (all ∙ ap (λ (rs : List Reply). map Some rs) o.1) ∙ only in
    let e : o.0 ≡ one = cc same in
    let s = subst (λ (rs : List Reply). IsServedOpen (alone asked) rs entries old (history store.disk) began (faults store.disk) store) (o.1 ∙ ap (λ (r : Reply). r ∷ []) e)
    (subst (λ (q : Requests). IsServedOpen q given entries old (history store.disk) began (faults store.disk) store) is served) in
    (record { entries = entries; done = s.done; later = store.map; later_meanings = indexes_of store.boxes; comes = s.comes; told = s.told; undone = s.undone; unmade = s.unmade }, refl)

-- ---- a request of one event that is refused

or_none : (o : Option Reply) → option_or o None ≡ o
or_none None = refl
or_none (Some given) = refl

replied_so : (e : RunEvent) (given : Reply) (b : Bool) → b ≡ true → first_in (λ x. x.reply) (cond b (e ∷ []) []) ≡ Some given → e.reply ≡ Some given
replied_so e given true is h = sym (or_none e.reply) ∙ h
replied_so e given false is h = absurd (cc is)

own_test : (k : ℕ) → k ≡ 0 → (k == 0) ≡ true
own_test k e = grind (arith, common_steps, e)

-- One that is refused by a check changes nothing.
pub refused_idle : (asked : Request) (given : Reply) (entries : List JournalEntry) (old new : Option History) (began now : Faults) → (done : IsScriptDone (alone asked) (given ∷ []) entries old new began now) → HasOneEvent asked → (why : Refusal) → is_step why ≡ true → given ≡ reply.Refused why → IsIdle done.leaves.opened new
refused_idle asked given entries old new began now done one why step is =
    let some = some_lists old done.m done.meanings done.opened in
    let s = done.serves some.0 some.1 (may_read asked (fetches_none asked (one_makes asked one)) some.0 old) in
    let told : Some (Some given) ≡ Some (reply_of 0 s.run) = s.served.given.1 0 (omega arith) in
    let reply : reply_of 0 s.run ≡ Some given = (let k : Some given ≡ reply_of 0 s.run = cc told in sym k) in
    s.refused (elim (one_at_most s.run.events (first_only s.served.around s.served.after some.0 asked s.run s.journal one s.served.next)) [
      | inl none ↦ subst (All IsRefusedAtOnce) (sym none) (All-nil IsRefusedAtOnce)
      | inr e ↦
          let own = (own_event s.served.around s.served.after some.0 asked s.run s.journal s.served.next 0 e.0 (ap (λ (es : List RunEvent). slice_get es 0) e.1)).0 in
          let replied : e.0.reply ≡ Some given = replied_so e.0 given (e.0.request == 0) (own_test e.0.request own) (ap (λ (es : List RunEvent). first_in (λ x. x.reply) (filter (λ x. x.request == 0) es)) (sym e.1) ∙ reply) in
          subst (All IsRefusedAtOnce) (sym e.1) (All-cons IsRefusedAtOnce e.0 [] (why, replied ∙ ap Some is, step) (All-nil IsRefusedAtOnce))
    ])
