-- One event more, whatever task it is of.
use Rattle.std.proofs.Common.{inl, inr, ◌⊎◌, ◌≡◌, ◌<◌, ◌≤◌, ◌+◌, ◌-◌, ◌^◌, ◌==◌, ℕ, Bool, true, false, cond, List, [], ◌∷◌, ◌++◌, Option, Some, None, refl, sym, ◌∙◌, ap, subst, arith, All, map}
use Rattle.std.specs.Prelude.{◌≢◌, zero, suc, min, nat_lt, take, is_some, length, filter, count_by, slice_get, nat_le}
use Rattle.std.proofs.lemmas.Grind.{common_steps}
use Rattle.std.proofs.Math.Seq.{take-length, take-append_seam}
use Rattle.std.proofs.lemmas.List.{append-nil, length-append, map-append, take-append-le}
use Rattle.std.proofs.lemmas.Option.{slice_get_within}
use Rattle.std.proofs.lemmas.List.Elements.{All-nil, All-cons, All-head, All-tail, All-push, All-append, All-weaker, filter-append}
use Rattle.std.proofs.lemmas.List.Sums.{sum_by-append, sum_by-cons}
use Rattle.disk_model.proofs.BetweenLemmas.{between-on}
use Rattle.store_core.specs.StoreInstances.{AreInstancesFirm}
use Rattle.disk_model.specs.Disk.{Files, DiskState, History, IfTold, IsImage, EachImage, calls, state_at, told_calls}
use Rattle.mdbox_base.specs.Streams.{Rose}
use Rattle.task_steps.specs.Step.{FaultsGrow, Seen, ShowsSeen, StaysFirm, HasComeTo, Leads, Stops, Fell, Went, IsFault, DidEvent}
use Rattle.disk_model.proofs.MomentLemmas.{each_image-map, each_image-then, state_at-only}
use Rattle.mdbox_base.specs.declared.requests.Request.{Request}
use Rattle.mdbox_base.specs.declared.replies.Refusal.{Refusal}
use Rattle.mdbox_base.specs.declared.replies.Refusal.TheVariants as refusal
use Rattle.mdbox_base.specs.declared.replies.Reply.{Reply}
use Rattle.mdbox_base.specs.declared.replies.Reply.TheVariants as reply
use Rattle.model_kept.specs.Kept.{MailIsKept}
use Rattle.model_kept.proofs.KeptLemmas.{ReadsImage}
use Rattle.model_lists.specs.Lists.{Lists}
use Rattle.list_machine.specs.Run.{RunEvent, Run, before, and_then}
use Rattle.journal.specs.Journal.{Requests, half_of, halves_of, JournalStep, IsStep, AreSteps, left_by, IsLegal, Broken, no_broken, as_if, AreBroken, Reached, HasReply, RoseBy, steps_of, IsFirstPart}
use Rattle.mdbox_base.specs.declared.script.Half.{Half}
use Rattle.journal.proofs.JournalLemmas.{steps_within, get_more}
use Rattle.journal.specs.GoesOn.{broken_by, AllMayCome}
use Rattle.journal.proofs.LegalLemmas.{legal_faults}
use Rattle.journal.proofs.ReachedLemmas.{reached_last, reached_quiet, reached_step}
use Rattle.journal.proofs.BrokenLemmas.{broken_is, none_failed, failure_is, failure_still, reached_fails, reached_broken}
use Rattle.journal.proofs.StoppedLemmas.{stopped_is_replied}
use Rattle.journal.specs.Events.{Around, DidPart, is_faulted}
use Rattle.journal.specs.Makes.{StepOf, WouldDo, WouldMake, lists_before, steps_made}
use Rattle.journal.proofs.MakesLemmas.{made_is_step, legal_by_task, lists_before_more, all_kept, last_or_before}
use Rattle.model_store.specs.Safe.{Safe}
use Rattle.model_store.proofs.SettledLemmas.{settled_safe}
use Rattle.model_store.specs.Settled.{Leaves, IsSettled, IsSettledFor}
use Rattle.mdbox_base.specs.declared.progress.Did.{Did}
use Rattle.mdbox_base.specs.declared.progress.Did.TheVariants as did
use Rattle.task_steps.proofs.UnmovedLemmas.{mail_on}
use Rattle.task_steps.specs.Serves.{BreaksBy, IsReached, NoneMoved, NoneStopped, WasAt, AreTimely, Serves, IsTurn}

-- ---- what an event adds to the journal

abbrev pub journal_by : Run → Request → List JournalStep → RunEvent → Option Reply → Lists → List JournalStep
journal_by run request journal event answer left = journal ++ steps_made run request event answer left

left_push : (start : Lists) (journal : List JournalStep) (step : JournalStep) → left_by start (journal ++ step ∷ []) ≡ step.left
left_push start [] step = refl
left_push start (x ∷ xs) step = left_push x.left xs step

left_made : (run : Run) (request : Request) (start : Lists) (journal : List JournalStep) (event : RunEvent) (answer : Option Reply) (left : Lists) → StepOf run request (left_by start journal) event answer left → left_by start (journal_by run request journal event answer left) ≡ left
left_made run request start journal event None left s = ap (λ (j : List JournalStep). left_by start j) (append-nil journal) ∙ sym s
left_made run request start journal event (Some answer) left s = left_push start journal _

unmade : (run : Run) (request : Request) (journal : List JournalStep) (event : RunEvent) (answer : Option Reply) (left : Lists) → answer ≡ None → journal_by run request journal event answer left ≡ journal
unmade run request journal event answer left e = ap (λ (a : Option Reply). journal_by run request journal event a left) e ∙ append-nil journal

made_within : (run : Run) (request : Request) (journal : List JournalStep) (event : RunEvent) (answer : Option Reply) (left : Lists) → All (λ s. s.event < length run.events) journal
    → All (λ s. s.event < length run.events + 1) (journal_by run request journal event answer left)
made_within run request journal event None left within = All-append (λ (s : JournalStep). s.event < length run.events + 1) journal [] (All-weaker (λ (s : JournalStep). s.event < length run.events) (λ (s : JournalStep). s.event < length run.events + 1) (λ s h. omega (arith, h)) journal within) (All-nil _)
made_within run request journal event (Some answer) left within =
    All-push (λ (s : JournalStep). s.event < length run.events + 1) journal _ (All-weaker (λ (s : JournalStep). s.event < length run.events) (λ (s : JournalStep). s.event < length run.events + 1) (λ s h. omega (arith, h)) journal within) (omega arith)

-- the lists before an event that is behind all steps
all_before : (start : Lists) (journal : List JournalStep) (n : ℕ) → All (λ s. s.event < n) journal → lists_before start journal n ≡ left_by start journal
all_before start journal n within = ap (λ (steps : List JournalStep). left_by start steps) (all_kept journal n within)

-- ---- a step may come

same_test : (a b : ℕ) → a ≡ b → (a == b) ≡ true
same_test a b e = grind (arith, common_steps, e)

one_kept : {X : Type 0} → (p : X → Bool) (x : X) → p x ≡ true → filter p (x ∷ []) ≡ x ∷ []
one_kept p x e = ap (λ (b : Bool). cond b (x ∷ []) []) e

own_steps : (place : ℕ) (journal : List JournalStep) (step : JournalStep) → step.request ≡ place → steps_of place (journal ++ step ∷ []) ≡ steps_of place journal ++ step ∷ []
own_steps place journal step e =
    filter-append (λ (s : JournalStep). s.request == place) journal (step ∷ []) ∙ ap (λ (l : List JournalStep). steps_of place journal ++ l) (one_kept (λ (s : JournalStep). s.request == place) step (same_test step.request place e))

begins_push : (hs rest : List Half) (h : Half) → slice_get (hs ++ rest) (length hs) ≡ Some h → IsFirstPart (hs ++ h ∷ []) (hs ++ rest)
begins_push [] [] h e = absurd (cc e)
begins_push [] (x ∷ xs) h e = (xs, ap (λ (y : Half). y ∷ xs) (one x h e))
  where
    one : (a b : Half) → Some a ≡ Some b → b ≡ a
    one a b k = cc k
begins_push (x ∷ xs) rest h e = let r = begins_push xs rest h (next e) in (r.0, ap (λ (l : List Half). x ∷ l) r.1)
  where
    next : slice_get (x ∷ (xs ++ rest)) (length (x ∷ xs)) ≡ Some h → slice_get (xs ++ rest) (length xs) ≡ Some h
    next k = k

length_map : {X Y : Type 0} → (f : X → Y) (xs : List X) → length (map f xs) ≡ length xs
length_map f [] = refl
length_map f (x ∷ xs) = let h = length_map f xs in omega (arith, h)

next_half : (journal : List JournalStep) (place : ℕ) (step : JournalStep) (request : Request) → step.request ≡ place → IsFirstPart (map (λ s. s.half) (steps_of place journal)) (halves_of request) → slice_get (halves_of request) (length (map (λ s. s.answer) (steps_of place journal))) ≡ Some step.half
    → IsFirstPart (map (λ s. s.half) (steps_of place (journal ++ step ∷ []))) (halves_of request)
next_half journal place step request e b turn =
    let hs = map (λ (s : JournalStep). s.half) (steps_of place journal) in
    let many : length (map (λ (s : JournalStep). s.answer) (steps_of place journal)) ≡ length hs = length_map (λ (s : JournalStep). s.answer) (steps_of place journal) ∙ sym (length_map (λ (s : JournalStep). s.half) (steps_of place journal)) in
    let at : slice_get (hs ++ b.0) (length hs) ≡ Some step.half = (ap (λ (l : List Half). slice_get l (length hs)) b.1 ∙ ap (λ (n : ℕ). slice_get (halves_of request) n) (sym many)) ∙ turn in
    let r = begins_push hs b.0 step.half at in
    (r.0, (ap (λ (l : List JournalStep). map (λ (s : JournalStep). s.half) l ++ r.0) (own_steps place journal step e) ∙ ap (λ (l : List Half). l ++ r.0) (map-append (λ (s : JournalStep). s.half) (steps_of place journal) (step ∷ []))) ∙ (r.1 ∙ b.1))

some_ask : (a b : ℕ × Request) → Some a ≡ Some b → a ≡ b
some_ask a b e = cc e

may_come : (start : Lists) (script : Requests) (run : Run) (journal : List JournalStep) (replies : List (Option Reply)) (lane place : ℕ) (request : Request) (event : RunEvent) (answer : Option Reply) (left : Lists)
    → IsTurn script journal replies lane place request → event.lane ≡ lane → event.request ≡ place → IsFirstPart (map (λ s. s.half) (steps_of place journal)) (halves_of request)
    → (is_some answer ≡ true → slice_get (halves_of request) (length (map (λ s. s.answer) (steps_of place journal))) ≡ Some (half_of request event.part))
    → (is_some answer ≡ true → (i : ℕ) → HasReply replies i (reply.Refused refusal.Stopped) → ⊥) → AllMayCome script journal replies (steps_made run request event answer left)
may_come start script run journal replies lane place request event None left turn on at begins in_turn free = tt
may_come start script run journal replies lane place request event (Some answer) left turn on at begins in_turn free = record {
  not_replied = ap (λ (n : ℕ). slice_get replies n) at ∙ turn.unanswered;
  next_half = λ asked e.
      let same : asked ≡ (lane, request) = some_ask asked (lane, request) ((sym e ∙ ap (λ (n : ℕ). slice_get script n) at) ∙ turn.asked) in
      subst (λ (n : ℕ). IsFirstPart (map (λ s. s.half) (steps_of n (journal ++ made ∷ []))) (halves_of asked.1)) (sym at)
      (subst (λ (q : ℕ × Request). IsFirstPart (map (λ s. s.half) (steps_of place (journal ++ made ∷ []))) (halves_of q.1)) (sym same) (next_half journal place made request at begins (in_turn refl)));
  next_request = All-weaker (λ (s : JournalStep). s.lane ≡ lane → s.request ≤ place) (λ (s : JournalStep). s.lane ≡ event.lane → s.request ≤ event.request) (λ s h e. let k = h (e ∙ on) in omega (arith, k, at)) journal turn.first;
  goes_on = λ i first second h lt e f same. free refl i h;
}
  where
    made : JournalStep
    made = record { lane = event.lane; request = event.request; half = half_of request event.part; event = length run.events; answer = answer; left = left }

-- ---- images of an event

each_from : (P : ℕ → Files → Type 0) (old new : Option History) → EachImage P old new → EachImage (λ m image. (told_calls old ≤ m) × P m image) old new
each_from P None new each = each
each_from P (Some old) None each = each
each_from P (Some old) (Some new) each = record { later = each.later; same = each.same; each = λ m state image from at is. (from, each.each m state image from at is) }

-- At the moment of an event's end only the lists behind are left; before it those before, or these.
step_images : (P Q : ℕ → Files → Type 0) (old now new : Option History) (lists left : Lists) → EachImage P old now → Leaves lists left now new → IsSettledFor left new
    → ((m : ℕ) (image : Files) → m < told_calls new → P m image → Q m image) → ((m : ℕ) (image : Files) → m < told_calls new → Safe image lists → Q m image) → ((m : ℕ) (image : Files) → Safe image left → Q m image) → EachImage Q old new
step_images P Q old now None lists left first second settled before kept made = absurd settled
step_images P Q old now (Some new) lists left first second settled before kept made = by_old old both
  where
    both : EachImage (λ m image. P m image ⊎ (Safe image lists ⊎ Safe image left)) old (Some new)
    both = each_image-then (λ m image. P m image ⊎ (Safe image lists ⊎ Safe image left)) old now (Some new)
        (each_image-map P (λ m image. P m image ⊎ (Safe image lists ⊎ Safe image left)) old now (λ m image h. inl h) first)
        (each_image-map (λ _ image. Safe image lists ⊎ Safe image left) (λ m image. P m image ⊎ (Safe image lists ⊎ Safe image left)) now (Some new) (λ m image h. inr h) second)

    earlier : (m : ℕ) (image : Files) → m < calls new → P m image ⊎ (Safe image lists ⊎ Safe image left) → Q m image
    earlier m image lt (inl h) = before m image lt h
    earlier m image lt (inr (inl h)) = kept m image lt h
    earlier m image lt (inr (inr h)) = made m image h

    by_old : (o : Option History) → EachImage (λ m image. P m image ⊎ (Safe image lists ⊎ Safe image left)) o (Some new) → EachImage Q o (Some new)
    by_old None e = absurd (let k : Some new ≡ None = e in cc k)
    by_old (Some h) e = record {
      later = e.later;
      same = e.same;
      each = λ m state image from at is. by_test m state image from at is (nat_le (calls new) m) refl;
    }
      where
        by_test : (m : ℕ) (state : DiskState) (image : Files) → calls h ≤ m → state_at new m ≡ Some state → IsImage state image → (b : Bool) → nat_le (calls new) m ≡ b → Q m image
        by_test m state image from at is true t =
            let only = state_at-only new m state (let k : calls new ≤ m = grind (arith, common_steps, t) in k) at in
            made m image (settled_safe new.now left image settled (subst (λ (d : DiskState). IsImage d image) only.1 is))
        by_test m state image from at is false t = earlier m image (let k : m < calls new = grind (arith, common_steps, t) in k) (e.each m state image from at is)

-- ---- numbers

fall : (b : Bool) → b ≡ true → b ≡ false → ⊥
fall b t f = let k : true ≡ false = sym t ∙ f in cc k

rose_later : (a b c : ℕ) → Rose a b → b ≤ c → Rose a c
rose_later a b c p q = omega (arith, p, q)

rose_now : (a b c : ℕ) → a ≤ b → Rose b c → Rose a c
rose_now a b c p q = omega (arith, p, q)

rose_by_more : (n many a b c : ℕ) → many ≤ n → min (a + n) (2 ^ 64 - 1) ≤ b → b ≤ c → min (a + many) (2 ^ 64 - 1) ≤ c
rose_by_more n many a b c k p q = omega (arith, k, p, q)

rose_by_one : (n many a b c : ℕ) → many ≤ n + 1 → min (a + n) (2 ^ 64 - 1) ≤ b → Rose b c → min (a + many) (2 ^ 64 - 1) ≤ c
rose_by_one n many a b c k p q = omega (arith, k, p, q)

abbrev one_or_none : RunEvent → ℕ
one_or_none e = cond (is_faulted e) 1 0

-- reads that failed, with those of one event more
reads_more : (events : List RunEvent) (event : RunEvent) (a b c : ℕ) → RoseBy (count_by is_faulted events) a b → b ≤ c → (event.refused ≡ Some refusal.ReadFault → Rose b c) → RoseBy (count_by is_faulted (events ++ event ∷ [])) a c
reads_more events event a b c p q r = by_refused event.refused refl
  where
    many : count_by is_faulted (events ++ event ∷ []) ≡ count_by is_faulted events + one_or_none event
    many = let h = sum_by-append one_or_none events (event ∷ []) in let k = sum_by-cons one_or_none event [] in omega (arith, h, k)

    none : one_or_none event ≡ 0 → RoseBy (count_by is_faulted (events ++ event ∷ [])) a c
    none e = rose_by_more (count_by is_faulted events) (count_by is_faulted (events ++ event ∷ [])) a b c (let m = many in omega (arith, m, e)) p q

    one : Rose b c → one_or_none event ≡ 1 → RoseBy (count_by is_faulted (events ++ event ∷ [])) a c
    one h e = rose_by_one (count_by is_faulted events) (count_by is_faulted (events ++ event ∷ [])) a b c (let m = many in omega (arith, m, e)) p h

    by_refused : (o : Option Refusal) → event.refused ≡ o → RoseBy (count_by is_faulted (events ++ event ∷ [])) a c
    by_refused None e = none (rw e refl)
    by_refused (Some refusal.ReadFault) e = one (r e) (rw e refl)
    by_refused (Some why) e = none (rw e refl)

-- ---- a broken step that stays

broken_stays : (run : Run) (script : Requests) (start : Lists) (journal : List JournalStep) (broken : Broken) (event : RunEvent) → broken.place ≤ length run.events → AreBroken run script start journal broken → AreBroken (and_then run event) script start journal broken
broken_stays run script start journal broken event le b =
    subst (λ (es : List RunEvent). AreSteps (record run { events = es ++ broken.events }) script (left_by start journal) broken.steps) (sym (take-append-le broken.place run.events (event ∷ []) le)) b

more_events : (run : Run) (event : RunEvent) (n : ℕ) → n ≤ length run.events → n ≤ length (run.events ++ event ∷ [])
more_events run event n le = let h = length-append run.events (event ∷ []) in omega (arith, h, le)

-- what a failed append would have done, in a run that goes on
would_stays : (script : Requests) (start : Lists) (run : Run) (journal : List JournalStep) (broken : Broken) (event : RunEvent) → broken.place ≤ length run.events → WouldDo script start run journal broken → WouldDo script start (and_then run event) journal broken
would_stays script start run journal broken event le d = λ n e asked around there is unrefused.
    subst (λ (es : List RunEvent). DidPart around (before (broken.place + n) (record run { events = es ++ broken.events })) (lists_before (left_by start journal) broken.steps (broken.place + n)) asked.1 e e.part)
    (sym (take-append-le broken.place run.events (event ∷ []) le)) (d n e asked around there is unrefused)

unmade_would : (script : Requests) (start : Lists) (run : Run) (request : Request) (journal : List JournalStep) (broken : Broken) (event : RunEvent) (answer : Option Reply) (left : Lists) → broken.place ≤ length run.events → answer ≡ None
    → WouldDo script start run journal broken → WouldDo script start (and_then run event) (journal_by run request journal event answer left) broken
unmade_would script start run request journal broken event answer left le none d =
    subst (λ (j : List JournalStep). WouldDo script start (and_then run event) j broken) (sym (unmade run request journal event answer left none)) (would_stays script start run journal broken event le d)

none_would : (script : Requests) (start : Lists) (run : Run) (journal : List JournalStep) → WouldDo script start run journal no_broken
none_would script start run journal = λ n event asked around there is unrefused. absurd (let k : None ≡ Some event = there in cc k)

-- a step that was made at this place or later isn't before it
none_before : (lists : Lists) (step : JournalStep) (n : ℕ) → n ≤ step.event → lists_before lists (step ∷ []) n ≡ lists
none_before lists step n le = ap (λ (b : Bool). left_by lists (cond b (step ∷ []) [])) (past step.event n le)
  where
    past : (a b : ℕ) → b ≤ a → nat_lt a b ≡ false
    past a b k = grind (arith, common_steps, k)

-- the run as it would have been, before the event that failed
before_failed : (run : Run) (event would : RunEvent) (began : ℕ) (step : JournalStep) → before (length run.events + 0) (as_if (and_then run event) (broken_by run would began step)) ≡ run
before_failed run event would began step =
    let whole : take (length run.events) (run.events ++ event ∷ []) ≡ run.events = take-append_seam run.events (event ∷ []) in
    let again : take (length run.events) (run.events ++ would ∷ []) ≡ run.events = take-append_seam run.events (would ∷ []) in
    let n : length run.events + 0 ≡ length run.events = omega arith in
    ap (λ (es : List RunEvent). record run { events = es })
    ((ap (λ (k : ℕ). take k (take (length run.events) (run.events ++ event ∷ []) ++ would ∷ [])) n ∙ ap (λ (es : List RunEvent). take (length run.events) (es ++ would ∷ [])) whole) ∙ again)

-- an append that failed in this event would have done what its event would have
would_made : (script : Requests) (start : Lists) (run : Run) (journal : List JournalStep) (lane place : ℕ) (request : Request) (event : RunEvent) (w : WouldMake run request (left_by start journal) event) (began : ℕ) (step : JournalStep)
    → slice_get script place ≡ Some (lane, request) → event.request ≡ place → step.event ≡ length run.events → WouldDo script start (and_then run event) journal (broken_by run w.would began step)
would_made script start run journal lane place request event w began step asked at is = does
  where
    here : (x : RunEvent) (q : ℕ × Request) (around : Around) → Some w.would ≡ Some x → slice_get script x.request ≡ Some q → x.refused ≡ None
        → DidPart around (before (length run.events + 0) (as_if (and_then run event) (broken_by run w.would began step))) (lists_before (left_by start journal) (step ∷ []) (length run.events + 0)) q.1 x x.part
    here x q around there is_asked unrefused =
        let x_is : w.would ≡ x = cc there in
        let unrefused_would : w.would.refused ≡ None = ap (λ (y : RunEvent). y.refused) x_is ∙ unrefused in
        let place_is : x.request ≡ place = sym (ap (λ (y : RunEvent). y.request) x_is) ∙ (w.request_is ∙ at) in
        let q_is : q ≡ (lane, request) = some_ask q (lane, request) ((sym is_asked ∙ ap (λ (n : ℕ). slice_get script n) place_is) ∙ asked) in
        subst (λ (y : RunEvent). DidPart around (before (length run.events + 0) (as_if (and_then run event) (broken_by run w.would began step))) (lists_before (left_by start journal) (step ∷ []) (length run.events + 0)) q.1 y y.part) x_is
        (subst (λ (o : ℕ × Request). DidPart around (before (length run.events + 0) (as_if (and_then run event) (broken_by run w.would began step))) (lists_before (left_by start journal) (step ∷ []) (length run.events + 0)) o.1 w.would w.would.part) (sym q_is)
        (subst (λ (ls : Lists). DidPart around (before (length run.events + 0) (as_if (and_then run event) (broken_by run w.would began step))) ls request w.would w.would.part) (sym (none_before (left_by start journal) step (length run.events + 0) (omega (arith, is))))
        (subst (λ (r : Run). DidPart around r (left_by start journal) request w.would w.would.part) (sym (before_failed run event w.would began step)) (w.did around unrefused_would))))

    does : WouldDo script start (and_then run event) journal (broken_by run w.would began step)
    does zero x q around there is_asked unrefused = here x q around there is_asked unrefused
    does (suc n) x q around there is_asked unrefused = absurd (let k : None ≡ Some x = there in cc k)

-- ---- one event more

-- What all ways have in common: but for the images, the broken step, and what the disk is settled for.
record Kept (start : Lists) (script : Requests) (run : Run) (journal : List JournalStep) (replies : List (Option Reply)) (began now : Seen) : Type 0 where
  pub legal : IsLegal start script run journal replies began.faults now.faults
  pub come : HasComeTo run now
  pub shown : ShowsSeen now (left_by start journal)
  pub mail : NoneMoved run.events → MailIsKept began.map began.history now.history
  pub reads : RoseBy (count_by is_faulted run.events) began.faults.reads now.faults.reads
  pub changes : began.faults.changes ≤ now.faults.changes
  pub halted : (i : ℕ) → HasReply replies i (reply.Refused refusal.Stopped) → now.stopped ≡ true
  pub stopped_by : now.stopped ≡ true → NoneStopped run.events → ⊥
  pub unrefused : now.stopped ≡ false → NoneStopped run.events

-- the event and what it did, told apart
record Told (start : Lists) (script : Requests) (run : Run) (journal : List JournalStep) (replies : List (Option Reply)) (began now new : Seen) (request : Request) (event : RunEvent) (answer : Option Reply) (left : Lists) (did : Did) : Type 0 where
  pub kept : Kept start script (and_then run event) (journal_by run request journal event answer left) replies began new
  pub moment_is : event.moment ≡ told_calls new.history
  pub made : StepOf run request (left_by start journal) event answer left
  pub within : All (λ s. s.event < length run.events) journal
  pub still : now.stopped ≡ true → new ≡ record now { pins = new.pins }
  pub faults : FaultsGrow (IsFault did) now.faults new.faults
  pub moments : All (λ e. e.moment ≤ told_calls now.history) run.events

-- the run goes on from one with this journal and these broken steps, and what the broken ones would have done follows too
abbrev Going : Lists → Requests → Run → List JournalStep → Broken → Run → List JournalStep → List (Option Reply) → Seen → Seen → Did → RunEvent → ℕ → Type 0
Going start script old steps before run journal replies began new how event at =
    (broken : Broken) × Serves start script run journal broken replies began new × (WouldDo script start old steps before → WouldDo script start run journal broken) × BreaksBy how old event at before broken

-- no step: the images are safe for the lists that stay
quiet_images : (start : Lists) (run : Run) (journal : List JournalStep) (broken : Broken) (began now new : Seen) (event : RunEvent) → All (λ s. s.event < length run.events) journal
    → EachImage (IsReached start run journal broken) began.history now.history → Leaves (left_by start journal) (left_by start journal) now.history new.history → EachImage (IsReached start (and_then run event) journal broken) began.history new.history
quiet_images start run journal broken began now new event within first second =
    each_image-then (IsReached start (and_then run event) journal broken) began.history now.history new.history
    (each_image-map (IsReached start run journal broken) (IsReached start (and_then run event) journal broken) began.history now.history (λ m image h. (h.0, reached_quiet start run event journal broken m h.0 within h.1, h.2)) first)
    (each_image-map (λ _ image. Safe image (left_by start journal) ⊎ Safe image (left_by start journal)) (IsReached start (and_then run event) journal broken) now.history new.history (λ m image h. elim h [
      | inl safe ↦ (left_by start journal, reached_last start (and_then run event) journal broken m, safe)
      | inr safe ↦ (left_by start journal, reached_last start (and_then run event) journal broken m, safe)
    ]) second)

still_images : (start : Lists) (run : Run) (journal : List JournalStep) (broken : Broken) (began now new : Seen) (event : RunEvent) → All (λ s. s.event < length run.events) journal → new.history ≡ now.history
    → EachImage (IsReached start run journal broken) began.history now.history → EachImage (IsReached start (and_then run event) journal broken) began.history new.history
still_images start run journal broken began now new event within same first =
    subst (λ (h : Option History). EachImage (IsReached start (and_then run event) journal broken) began.history h) (sym same)
    (each_image-map (IsReached start run journal broken) (IsReached start (and_then run event) journal broken) began.history now.history (λ m image h. (h.0, reached_quiet start run event journal broken m h.0 within h.1, h.2)) first)

step_reached : (start : Lists) (run : Run) (request : Request) (journal : List JournalStep) (began now new : Seen) (event : RunEvent) (answer : Option Reply) (left : Lists) → is_some answer ≡ true → All (λ s. s.event < length run.events) journal
    → event.moment ≡ told_calls new.history → EachImage (IsReached start run journal no_broken) began.history now.history → Leaves (left_by start journal) left now.history new.history → IsSettledFor left new.history
    → EachImage (IsReached start (and_then run event) (journal_by run request journal event answer left) no_broken) began.history new.history
step_reached start run request journal began now new event None left some within moment first second settled = absurd (cc some)
step_reached start run request journal began now new event (Some answer) left some within moment first second settled =
    step_images (IsReached start run journal no_broken) (IsReached start (and_then run event) (journal ++ made ∷ []) no_broken) began.history now.history new.history (left_by start journal) left first second settled
    (λ m image lt h. (h.0, reached_step start run event journal made m h.0 within refl (omega (arith, lt, moment)) h.1, h.2))
    (λ m image lt safe. (left_by start journal, reached_step start run event journal made m (left_by start journal) within refl (omega (arith, lt, moment)) (reached_last start run journal no_broken m), safe))
    (λ m image safe. (left, subst (λ (ls : Lists). Reached start (and_then run event) (journal ++ made ∷ []) no_broken m ls) (left_push start journal made) (reached_last start (and_then run event) (journal ++ made ∷ []) no_broken m), safe))
  where
    made : JournalStep
    made = record { lane = event.lane; request = event.request; half = half_of request event.part; event = length run.events; answer = answer; left = left }

-- ---- moments

-- the states of the moments before an event stay
same_states : (lists left : Lists) (now new : Seen) → Leaves lists left now.history new.history → (m : ℕ) (state : DiskState) → m ≤ told_calls now.history → WasAt new.history m state → WasAt now.history m state
same_states lists left now new leaves m state le is = by_old now.history new.history leaves le is
  where
    by_old : (a b : Option History) → Leaves lists left a b → m ≤ told_calls a → WasAt b m state → WasAt a m state
    by_old None b e le is = subst (λ (h : Option History). WasAt h m state) e is
    by_old (Some a) None e le is = absurd e
    by_old (Some a) (Some b) e le is = sym (e.same m le) ∙ is

front_unrefused : (events : List RunEvent) (event : RunEvent) → NoneStopped (events ++ event ∷ []) → NoneStopped events
front_unrefused [] event h = All-nil _
front_unrefused (x ∷ xs) event h = All-cons (λ (e : RunEvent). e.refused ≢ Some refusal.Stopped) x xs (All-head (λ (e : RunEvent). e.refused ≢ Some refusal.Stopped) x (xs ++ event ∷ []) h)
    (front_unrefused xs event (All-tail (λ (e : RunEvent). e.refused ≢ Some refusal.Stopped) x (xs ++ event ∷ []) h))

last_unrefused : (events : List RunEvent) (event : RunEvent) → NoneStopped (events ++ event ∷ []) → event.refused ≡ Some refusal.Stopped → ⊥
last_unrefused [] event h = All-head (λ (e : RunEvent). e.refused ≢ Some refusal.Stopped) event [] h
last_unrefused (x ∷ xs) event h = last_unrefused xs event (All-tail (λ (e : RunEvent). e.refused ≢ Some refusal.Stopped) x (xs ++ event ∷ []) h)

-- at the moment of the last event the disk is in its present state
now_settled : (lists : Lists) (history : Option History) (m : ℕ) (state : DiskState) → m ≡ told_calls history → WasAt history m state → IsSettledFor lists history → IsSettled state lists
now_settled lists None m state at is settled = absurd settled
now_settled lists (Some h) m state at is settled = let only = state_at-only h m state (omega (arith, at)) is in subst (λ (d : DiskState). IsSettled d lists) (sym only.1) settled

moment_at : (events : List RunEvent) (n : ℕ) (event : RunEvent) (calls : ℕ) → All (λ e. e.moment ≤ calls) events → slice_get events n ≡ Some event → event.moment ≤ calls
moment_at [] zero event calls all there = absurd (cc there)
moment_at [] (suc n) event calls all there = absurd (cc there)
moment_at (x ∷ xs) zero event calls all there = subst (λ (e : RunEvent). e.moment ≤ calls) (one x event there) (All-head (λ (e : RunEvent). e.moment ≤ calls) x xs all)
  where
    one : (a b : RunEvent) → Some a ≡ Some b → a ≡ b
    one a b e = cc e
moment_at (x ∷ xs) (suc n) event calls all there = moment_at xs n event calls (All-tail (λ (e : RunEvent). e.moment ≤ calls) x xs all) there

-- The events are timely with one more, where the states before it stay, and the disk is settled behind it unless the store stopped.
timely_on : (start : Lists) (run : Run) (request : Request) (journal : List JournalStep) (now new : Seen) (event : RunEvent) (answer : Option Reply) (left : Lists) → All (λ s. s.event < length run.events) journal
    → All (λ e. e.moment ≤ told_calls now.history) run.events → event.moment ≡ told_calls new.history → AreTimely start run journal now.history
    → ((m : ℕ) (state : DiskState) → m ≤ told_calls now.history → WasAt new.history m state → WasAt now.history m state)
    → (NoneStopped (run.events ++ event ∷ []) → IsSettledFor (left_by start (journal_by run request journal event answer left)) new.history)
    → AreTimely start (and_then run event) (journal_by run request journal event answer left) new.history
timely_on start run request journal now new event answer left within moments at timely same settled n found state there last_then none is = by_place (last_or_before run event found n there)
  where
    by_place : (slice_get run.events n ≡ Some found) ⊎ ((n ≡ length run.events) × (found ≡ event)) → IsSettled state (lists_before start (journal_by run request journal event answer left) (n + 1))
    by_place (inl before) =
        let lt = slice_get_within run.events n found before in
        subst (λ (ls : Lists). IsSettled state ls) (lists_before_more run request event answer left start journal (n + 1) (omega (arith, lt)))
        (timely n found state before (λ k later lt there. last_then k later lt (get_more run.events (event ∷ []) k later there)) (subst (λ (es : List RunEvent). NoneStopped es) (take-append-le (n + 1) run.events (event ∷ []) (omega (arith, lt))) none)
        (same found.moment state (moment_at run.events n found (told_calls now.history) moments before) is))
    by_place (inr last) =
        let whole : take (n + 1) (run.events ++ event ∷ []) ≡ run.events ++ event ∷ [] =
        let all = length-append run.events (event ∷ []) in
        ap (λ (k : ℕ). take k (run.events ++ event ∷ [])) (let e : n + 1 ≡ length (run.events ++ event ∷ []) = omega (arith, all, last.0) in e) ∙ take-length (run.events ++ event ∷ []) in
        let free : NoneStopped (run.events ++ event ∷ []) = subst (λ (es : List RunEvent). NoneStopped es) whole none in
        let here : IsSettled state (left_by start (journal_by run request journal event answer left)) = now_settled (left_by start (journal_by run request journal event answer left)) new.history found.moment state (ap (λ (e : RunEvent). e.moment) last.1 ∙ at) is (settled free) in
        subst (λ (ls : Lists). IsSettled state ls) (sym (all_before start (journal_by run request journal event answer left) (n + 1) (let w = made_within run request journal event answer left within in All-weaker (λ (s : JournalStep). s.event < length run.events + 1) (λ (s : JournalStep). s.event < n + 1) (λ s h. omega (arith, h, last.0)) _ w))) here

quiet_timely : (start : Lists) (run : Run) (request : Request) (journal : List JournalStep) (now new : Seen) (event : RunEvent) (answer : Option Reply) (left : Lists) → answer ≡ None → All (λ s. s.event < length run.events) journal
    → All (λ e. e.moment ≤ told_calls now.history) run.events → event.moment ≡ told_calls new.history → AreTimely start run journal now.history
    → ((m : ℕ) (state : DiskState) → m ≤ told_calls now.history → WasAt new.history m state → WasAt now.history m state)
    → (NoneStopped (run.events ++ event ∷ []) → IsSettledFor (left_by start journal) new.history) → AreTimely start (and_then run event) journal new.history
quiet_timely start run request journal now new event answer left none within moments at timely same settled =
    subst (λ (j : List JournalStep). AreTimely start (and_then run event) j new.history) (unmade run request journal event answer left none)
    (timely_on start run request journal now new event answer left within moments at timely same
    (λ free. subst (λ (j : List JournalStep). IsSettledFor (left_by start j) new.history) (sym (unmade run request journal event answer left none)) (settled free)))

failed_timely : (start : Lists) (run : Run) (request : Request) (journal : List JournalStep) (now new : Seen) (event : RunEvent) (answer : Option Reply) (left : Lists) → All (λ s. s.event < length run.events) journal
    → All (λ e. e.moment ≤ told_calls now.history) run.events → event.moment ≡ told_calls new.history → AreTimely start run journal now.history
    → ((m : ℕ) (state : DiskState) → m ≤ told_calls now.history → WasAt new.history m state → WasAt now.history m state)
    → event.refused ≡ Some refusal.Stopped → answer ≡ None → AreTimely start (and_then run event) journal new.history
failed_timely start run request journal now new event answer left within moments at timely same refused none =
    quiet_timely start run request journal now new event answer left none within moments at timely same (λ free. absurd (last_unrefused run.events event free refused))

-- a store that stops with an event refused it so
falls_so : (request : Request) (run : Run) (lists left : Lists) (event : RunEvent) (answer : Option Reply) (now new : Seen) (how : Did) → Went how request run lists left event answer now new → now.stopped ≡ false → new.stopped ≡ true → event.refused ≡ Some refusal.Stopped
falls_so request run lists left event answer now new did.Quiet w ran e = absurd (fall new.stopped e (w.1 ∙ ran))
falls_so request run lists left event answer now new (did.Step half) w ran e = absurd (fall new.stopped e w.2)
falls_so request run lists left event answer now new did.Failed w ran e = w.0.refused
falls_so request run lists left event answer now new (did.Broken half) w ran e = w.0.refused

firm_on : (now new : Seen) → StaysFirm now new → IfTold now.history (AreInstancesFirm now.known now.map) → IfTold new.history (AreInstancesFirm new.known new.map)
firm_on now new stays firm = between-on (λ a b. AreInstancesFirm now.known now.map a → AreInstancesFirm new.known new.map b) (AreInstancesFirm now.known now.map) (AreInstancesFirm new.known new.map) now.history new.history (λ a b s f. s f) stays firm

quiet_on : (start : Lists) (script : Requests) (run : Run) (journal : List JournalStep) (broken : Broken) (replies : List (Option Reply)) (began now new : Seen) (request : Request) (event : RunEvent) (answer : Option Reply) (left : Lists) → Serves start script run journal broken replies began now
    → Told start script run journal replies began now new request event answer left did.Quiet → answer ≡ None → new.stopped ≡ now.stopped → Leads (left_by start journal) (left_by start journal) now new → (new.stopped ≡ false → StaysFirm now new) → Going start script run journal broken (and_then run event) (journal_by run request journal event answer left) replies began new did.Quiet event (told_calls now.history)
quiet_on start script run journal broken replies began now new request event answer left s t none same leads firm = (
  broken,
  subst (λ (j : List JournalStep). Kept start script (and_then run event) j replies began new → Serves start script (and_then run event) j broken replies began new) (sym (unmade run request journal event answer left none)) all t.kept,
  unmade_would script start run request journal broken event answer left s.within none,
  refl,
)
  where
    crash : IsSettledFor start began.history → (b : Bool) → now.stopped ≡ b → EachImage (IsReached start (and_then run event) journal broken) began.history new.history
    crash at true e = still_images start run journal broken began now new event t.within (ap (λ (x : Seen). x.history) (t.still e)) (s.crash at)
    crash at false e = quiet_images start run journal broken began now new event t.within (s.crash at) (leads.stops (s.settled e at, s.firm e at))

    timely : IsSettledFor start began.history → (b : Bool) → now.stopped ≡ b → AreTimely start (and_then run event) journal new.history
    timely at true e = quiet_timely start run request journal now new event answer left none t.within t.moments t.moment_is (s.timely at) (λ m state le is. subst (λ (h : Option History). WasAt h m state) (ap (λ (x : Seen). x.history) (t.still e)) is)
        (λ free. absurd (s.stopped_by e (front_unrefused run.events event free)))
    timely at false e = quiet_timely start run request journal now new event answer left none t.within t.moments t.moment_is (s.timely at) (same_states (left_by start journal) (left_by start journal) now new (leads.stops (s.settled e at, s.firm e at)))
        (λ free. leads.settled (s.settled e at, s.firm e at))

    all : Kept start script (and_then run event) journal replies began new → Serves start script (and_then run event) journal broken replies began new
    all k = record {
      legal = k.legal;
      begins = s.begins;
      come = k.come;
      shown = k.shown;
      within = more_events run event broken.place s.within;
      broken_is = broken_stays run script start journal broken event s.within s.broken_is;
      of_failure = failure_still run event broken s.within s.of_failure;
      crash = λ at. crash at now.stopped refl;
      timely = λ at. timely at now.stopped refl;
      unbroken = λ e. s.unbroken (sym same ∙ e);
      settled = λ e at. leads.settled (s.settled (sym same ∙ e) at, s.firm (sym same ∙ e) at);
      firm = λ e at. firm_on now new (firm e) (s.firm (sym same ∙ e) at);
      mail = k.mail;
      reads = k.reads;
      changes = k.changes;
      fell = λ e. rose_later began.faults.changes now.faults.changes new.faults.changes (s.fell (sym same ∙ e)) t.faults.changes;
      halted = k.halted;
      stopped_by = k.stopped_by;
      unrefused = k.unrefused;
    }

step_on : (start : Lists) (script : Requests) (run : Run) (journal : List JournalStep) (broken : Broken) (replies : List (Option Reply)) (began now new : Seen) (request : Request) (event : RunEvent) (answer : Option Reply) (left : Lists) (half : Half) → Serves start script run journal broken replies began now
    → Told start script run journal replies began now new request event answer left (did.Step half) → is_some answer ≡ true → new.stopped ≡ false → now.stopped ≡ false → Leads (left_by start journal) left now new → StaysFirm now new → Going start script run journal broken (and_then run event) (journal_by run request journal event answer left) replies began new (did.Step half) event (told_calls now.history)
step_on start script run journal broken replies began now new request event answer left half s t some runs ran leads firm = (
  no_broken,
  record {
    legal = t.kept.legal;
    begins = s.begins;
    come = t.kept.come;
    shown = t.kept.shown;
    within = omega arith;
    broken_is = tt;
    of_failure = none_failed (and_then run event);
    crash = λ at. step_reached start run request journal began now new event answer left some t.within t.moment_is
        (subst (λ (b : Broken). EachImage (IsReached start run journal b) began.history now.history) (s.unbroken ran) (s.crash at)) (leads.stops (s.settled ran at, s.firm ran at)) (leads.settled (s.settled ran at, s.firm ran at));
    timely = λ at. timely_on start run request journal now new event answer left t.within t.moments t.moment_is (s.timely at) (same_states (left_by start journal) left now new (leads.stops (s.settled ran at, s.firm ran at)))
        (λ none. subst (λ (ls : Lists). IsSettledFor ls new.history) (sym (left_made run request start journal event answer left t.made)) (leads.settled (s.settled ran at, s.firm ran at)));
    unbroken = λ e. refl;
    settled = λ e at. subst (λ (ls : Lists). IsSettledFor ls new.history) (sym (left_made run request start journal event answer left t.made)) (leads.settled (s.settled ran at, s.firm ran at));
    firm = λ e at. firm_on now new firm (s.firm ran at);
    mail = t.kept.mail;
    reads = t.kept.reads;
    changes = t.kept.changes;
    fell = λ e. absurd (fall new.stopped e runs);
    halted = t.kept.halted;
    stopped_by = t.kept.stopped_by;
    unrefused = t.kept.unrefused;
  },
  λ d. none_would script start (and_then run event) (journal_by run request journal event answer left),
  sym (s.unbroken ran),
)

failed_on : (start : Lists) (script : Requests) (run : Run) (journal : List JournalStep) (broken : Broken) (replies : List (Option Reply)) (began now new : Seen) (request : Request) (event : RunEvent) (answer : Option Reply) (left : Lists) → Serves start script run journal broken replies began now
    → Told start script run journal replies began now new request event answer left did.Failed → Fell event answer now new → Stops (left_by start journal) (left_by start journal) now new → Going start script run journal broken (and_then run event) (journal_by run request journal event answer left) replies began new did.Failed event (told_calls now.history)
failed_on start script run journal broken replies began now new request event answer left s t f stops = (
  broken,
  subst (λ (j : List JournalStep). Kept start script (and_then run event) j replies began new → Serves start script (and_then run event) j broken replies began new) (sym (unmade run request journal event answer left f.unanswered)) all t.kept,
  unmade_would script start run request journal broken event answer left s.within f.unanswered,
  refl,
)
  where
    all : Kept start script (and_then run event) journal replies began new → Serves start script (and_then run event) journal broken replies began new
    all k = record {
      legal = k.legal;
      begins = s.begins;
      come = k.come;
      shown = k.shown;
      within = more_events run event broken.place s.within;
      broken_is = broken_stays run script start journal broken event s.within s.broken_is;
      of_failure = failure_still run event broken s.within s.of_failure;
      crash = λ at. quiet_images start run journal broken began now new event t.within (s.crash at) (stops (s.settled f.ran at, s.firm f.ran at));
      timely = λ at. failed_timely start run request journal now new event answer left t.within t.moments t.moment_is (s.timely at) (same_states (left_by start journal) (left_by start journal) now new (stops (s.settled f.ran at, s.firm f.ran at))) f.refused f.unanswered;
      unbroken = λ e. absurd (fall new.stopped f.stopped e);
      settled = λ e at. absurd (fall new.stopped f.stopped e);
      firm = λ e at. absurd (fall new.stopped f.stopped e);
      mail = k.mail;
      reads = k.reads;
      changes = k.changes;
      fell = λ e. rose_now began.faults.changes now.faults.changes new.faults.changes s.changes (t.faults.rose tt);
      halted = k.halted;
      stopped_by = k.stopped_by;
      unrefused = k.unrefused;
    }

broken_on : (start : Lists) (script : Requests) (run : Run) (journal : List JournalStep) (broken : Broken) (replies : List (Option Reply)) (began now new : Seen) (lane place : ℕ) (request : Request) (event : RunEvent) (answer : Option Reply) (left : Lists) (half : Half)
    → slice_get script place ≡ Some (lane, request) → event.lane ≡ lane → event.request ≡ place → half_of request event.part ≡ half → Serves start script run journal broken replies began now
    → Told start script run journal replies began now new request event answer left (did.Broken half) → Fell event answer now new → (w : WouldMake run request (left_by start journal) event) → Stops (left_by start journal) w.left now new → Going start script run journal broken (and_then run event) (journal_by run request journal event answer left) replies began new (did.Broken half) event (told_calls now.history)
broken_on start script run journal broken replies began now new lane place request event answer left half asked on at is_half s t f w stops = (
  next,
  subst (λ (j : List JournalStep). Kept start script (and_then run event) j replies began new → Serves start script (and_then run event) j next replies began new) (sym (unmade run request journal event answer left f.unanswered)) all t.kept,
  λ d. subst (λ (j : List JournalStep). WouldDo script start (and_then run event) j next) (sym (unmade run request journal event answer left f.unanswered))
      (would_made script start run journal lane place request event w (told_calls now.history) step asked at refl),
  (w.would, step, refl, w.lane_is, w.request_is, ap (half_of request) w.part_is ∙ is_half),
)
  where
    step : JournalStep
    step = record { lane = w.would.lane; request = w.would.request; half = half_of request w.would.part; event = length run.events; answer = w.answer; left = w.left }

    next : Broken
    next = broken_by run w.would (told_calls now.history) step

    is_step : IsStep (and_then run w.would) script (left_by start journal) step
    is_step = made_is_step run script (lane, request) (left_by start journal) w.would w.answer w.left (ap (λ (n : ℕ). slice_get script n) (w.request_is ∙ at) ∙ asked) (w.lane_is ∙ on) w.made

    crash : IsSettledFor start began.history → EachImage (IsReached start (and_then run event) journal next) began.history new.history
    crash settled =
        each_image-then (IsReached start (and_then run event) journal next) began.history now.history new.history
        (each_image-map (IsReached start run journal no_broken) (IsReached start (and_then run event) journal next) began.history now.history
        (λ m image h. (h.0, reached_fails start (and_then run event) journal next m h.0 (reached_quiet start run event journal no_broken m h.0 t.within h.1), h.2))
        (subst (λ (b : Broken). EachImage (IsReached start run journal b) began.history now.history) (s.unbroken f.ran) (s.crash settled)))
        (each_image-map (λ m image. (told_calls now.history ≤ m) × (Safe image (left_by start journal) ⊎ Safe image w.left)) (IsReached start (and_then run event) journal next) now.history new.history (λ m image h. elim h.1 [
          | inl safe ↦ (left_by start journal, reached_last start (and_then run event) journal next m, safe)
          | inr safe ↦ (w.left, reached_broken start (and_then run event) journal next m h.0, safe)
        ]) (each_from (λ _ image. Safe image (left_by start journal) ⊎ Safe image w.left) now.history new.history (stops (s.settled f.ran settled, s.firm f.ran settled))))

    all : Kept start script (and_then run event) journal replies began new → Serves start script (and_then run event) journal next replies began new
    all k = record {
      legal = k.legal;
      begins = s.begins;
      come = k.come;
      shown = k.shown;
      within = more_events run event (length run.events) (omega arith);
      broken_is = broken_is run script start journal event w.would (told_calls now.history) step is_step;
      of_failure = failure_is run event w.would (told_calls now.history) step (s.unrefused f.ran) s.come.come.moments f.refused w.lane_is w.request_is w.part_is refl;
      crash = crash;
      timely = λ at. failed_timely start run request journal now new event answer left t.within t.moments t.moment_is (s.timely at) (same_states (left_by start journal) w.left now new (stops (s.settled f.ran at, s.firm f.ran at))) f.refused f.unanswered;
      unbroken = λ e. absurd (fall new.stopped f.stopped e);
      settled = λ e at. absurd (fall new.stopped f.stopped e);
      firm = λ e at. absurd (fall new.stopped f.stopped e);
      mail = k.mail;
      reads = k.reads;
      changes = k.changes;
      fell = λ e. rose_now began.faults.changes now.faults.changes new.faults.changes s.changes (t.faults.rose tt);
      halted = k.halted;
      stopped_by = k.stopped_by;
      unrefused = k.unrefused;
    }

ran_on : (now new : Seen) → new.stopped ≡ false → (now.stopped ≡ true → new ≡ record now { pins = new.pins }) → now.stopped ≡ false
ran_on now new runs still = by_test now.stopped refl
  where
    by_test : (b : Bool) → now.stopped ≡ b → now.stopped ≡ false
    by_test true e = absurd (fall now.stopped e (sym (ap (λ (x : Seen). x.stopped) (still e)) ∙ runs))
    by_test false e = e

by_way : (start : Lists) (script : Requests) (run : Run) (journal : List JournalStep) (broken : Broken) (replies : List (Option Reply)) (began now new : Seen) (lane place : ℕ) (request : Request) (event : RunEvent) (answer : Option Reply) (left : Lists) (how : Did)
    → slice_get script place ≡ Some (lane, request) → event.lane ≡ lane → event.request ≡ place → Serves start script run journal broken replies began now
    → Told start script run journal replies began now new request event answer left how → Went how request run (left_by start journal) left event answer now new → (new.stopped ≡ false → StaysFirm now new) → Going start script run journal broken (and_then run event) (journal_by run request journal event answer left) replies began new how event (told_calls now.history)
by_way start script run journal broken replies began now new lane place request event answer left did.Quiet asked on at s t w firm = quiet_on start script run journal broken replies began now new request event answer left s t w.0 w.1 w.2 firm
by_way start script run journal broken replies began now new lane place request event answer left (did.Step half) asked on at s t w firm =
    step_on start script run journal broken replies began now new request event answer left half s t w.0 w.2 (ran_on now new w.2 t.still) w.3 (firm w.2)
by_way start script run journal broken replies began now new lane place request event answer left did.Failed asked on at s t w firm = failed_on start script run journal broken replies began now new request event answer left s t w.0 w.1
by_way start script run journal broken replies began now new lane place request event answer left (did.Broken half) asked on at s t w firm =
    broken_on start script run journal broken replies began now new lane place request event answer left half asked on at w.1 s t w.0 w.2.0 w.2.1

-- a step is made only by a store that runs
makes_running : (request : Request) (run : Run) (lists left : Lists) (event : RunEvent) (answer : Option Reply) (now new : Seen) (how : Did) → Went how request run lists left event answer now new → is_some answer ≡ true → new.stopped ≡ false
makes_running request run lists left event answer now new did.Quiet w some = absurd (fall (is_some answer) some (ap (λ (a : Option Reply). is_some a) w.0))
makes_running request run lists left event answer now new (did.Step half) w some = w.2
makes_running request run lists left event answer now new did.Failed w some = absurd (fall (is_some answer) some (ap (λ (a : Option Reply). is_some a) w.0.unanswered))
makes_running request run lists left event answer now new (did.Broken half) w some = absurd (fall (is_some answer) some (ap (λ (a : Option Reply). is_some a) w.0.unanswered))

-- A run of events goes on with one more, of any task that does as its clause says, in its turn.
pub serves_by : (start : Lists) (script : Requests) (run : Run) (journal : List JournalStep) (broken : Broken) (replies : List (Option Reply)) (began now new : Seen) (around after : Around) (lane place : ℕ) (request : Request) (how : Did) (ended : Option Reply) → Serves start script run journal broken replies began now
    → IsTurn script journal replies lane place request → (d : DidEvent around after run lane place (map (λ s. s.answer) (steps_of place journal)) request (left_by start journal) now new how ended) → IfTold now.history ReadsImage → (new.stopped ≡ false → StaysFirm now new)
    → (next : Broken) × Serves start script (and_then run d.makes.event) (journal ++ steps_made run request d.makes.event d.makes.answer d.left) next replies began new
    × (WouldDo script start run journal broken → WouldDo script start (and_then run d.makes.event) (journal ++ steps_made run request d.makes.event d.makes.answer d.left) next)
    × BreaksBy how run d.makes.event (told_calls now.history) broken next
serves_by start script run journal broken replies began now new around after lane place request how ended s turn d reads firm =
    by_way start script run journal broken replies began now new lane place request d.makes.event d.makes.answer d.left how turn.asked d.makes.lane_is d.makes.request_is s told d.went firm
  where
    halted : (i : ℕ) → HasReply replies i (reply.Refused refusal.Stopped) → new.stopped ≡ true
    halted i h = let e = s.halted i h in ap (λ (x : Seen). x.stopped) (d.ends.still e) ∙ e

    -- an event that a stopped store refused would have been replied so, and the store be stopped
    stops : d.makes.event.refused ≡ Some refusal.Stopped → new.stopped ≡ true
    stops why = d.ends.halts.0 (sym d.makes.ended_is ∙ stopped_is_replied around after run (left_by start journal) request d.makes.event d.makes.is_event why)

    stopped_by : new.stopped ≡ true → NoneStopped (run.events ++ d.makes.event ∷ []) → ⊥
    stopped_by e none = by_old now.stopped refl
      where
        by_old : (b : Bool) → now.stopped ≡ b → ⊥
        by_old true was = s.stopped_by was (front_unrefused run.events d.makes.event none)
        by_old false ran = last_unrefused run.events d.makes.event none (falls_so request run (left_by start journal) d.left d.makes.event d.makes.answer now new how d.went ran e)

    unrefused : new.stopped ≡ false → NoneStopped (run.events ++ d.makes.event ∷ [])
    unrefused e = All-append (λ (x : RunEvent). x.refused ≢ Some refusal.Stopped) run.events (d.makes.event ∷ []) (s.unrefused (ran_on now new e d.ends.still))
        (All-cons (λ (x : RunEvent). x.refused ≢ Some refusal.Stopped) d.makes.event [] (λ why. fall new.stopped (stops why) e) (All-nil _))

    free : is_some d.makes.answer ≡ true → (i : ℕ) → HasReply replies i (reply.Refused refusal.Stopped) → ⊥
    free some i h = fall new.stopped (halted i h) (makes_running request run (left_by start journal) d.left d.makes.event d.makes.answer now new how d.went some)

    may : AllMayCome script journal replies (steps_made run request d.makes.event d.makes.answer d.left)
    may = may_come start script run journal replies lane place request d.makes.event d.makes.answer d.left turn d.makes.lane_is d.makes.request_is (s.legal.order.halves place (lane, request) turn.asked) d.ends.in_turn free

    told : Told start script run journal replies began now new request d.makes.event d.makes.answer d.left how
    told = record {
      kept = record {
        legal = legal_faults start script (and_then run d.makes.event) (journal ++ steps_made run request d.makes.event d.makes.answer d.left) replies began.faults now.faults new.faults
            (legal_by_task start script run journal replies began.faults now.faults around after lane place request d.left now.map new.map now.drawn new.drawn (told_calls now.history) (told_calls new.history) ended s.legal s.come.come d.grows turn.asked d.makes may)
            d.ends.faults.reads d.ends.faults.changes;
        come = d.come;
        shown = subst (λ (ls : Lists). ShowsSeen new ls) (sym (left_made run request start journal d.makes.event d.makes.answer d.left d.makes.made)) d.shown;
        mail = mail_on run began.map now.map began.history now.history new.history s.begins.map_is s.come.come.map_is reads s.mail d.mail d.makes.event;
        reads = reads_more run.events d.makes.event began.faults.reads now.faults.reads new.faults.reads s.reads d.ends.faults.reads d.ends.reads;
        changes = (let a = s.changes in let b = d.ends.faults.changes in omega (arith, a, b));
        halted = halted;
        stopped_by = stopped_by;
        unrefused = unrefused;
      };
      moment_is = d.makes.moment_is;
      moments = s.come.come.moments;
      made = d.makes.made;
      within = steps_within run script start journal s.legal.steps;
      still = d.ends.still;
      faults = d.ends.faults;
    }

-- The same, but for which steps are broken.
pub serves_on : (start : Lists) (script : Requests) (run : Run) (journal : List JournalStep) (broken : Broken) (replies : List (Option Reply)) (began now new : Seen) (around after : Around) (lane place : ℕ) (request : Request) (how : Did) (ended : Option Reply) → Serves start script run journal broken replies began now
    → IsTurn script journal replies lane place request → (d : DidEvent around after run lane place (map (λ s. s.answer) (steps_of place journal)) request (left_by start journal) now new how ended) → IfTold now.history ReadsImage → (new.stopped ≡ false → StaysFirm now new)
    → (next : Broken) × Serves start script (and_then run d.makes.event) (journal ++ steps_made run request d.makes.event d.makes.answer d.left) next replies began new
    × (WouldDo script start run journal broken → WouldDo script start (and_then run d.makes.event) (journal ++ steps_made run request d.makes.event d.makes.answer d.left) next)
serves_on start script run journal broken replies began now new around after lane place request how ended s turn d reads firm = let s = serves_by start script run journal broken replies began now new around after lane place request how ended s turn d reads firm in (s.0, s.1, s.2)
