-- An event that ends its request; turns and stages as events go on.
use Rattle.std.proofs.Common.{inr, ◌≡◌, ◌<◌, ◌≤◌, ◌==◌, ℕ, Bool, true, false, cond, List, [], ◌∷◌, ◌++◌, Option, Some, None, refl, sym, ◌∙◌, ap, subst, arith, All, map}
use Rattle.std.specs.Prelude.{zero, suc, ◌≢◌, length, filter, count_by, slice_get}
use Rattle.std.proofs.lemmas.Grind.{common_steps}
use Rattle.std.proofs.lemmas.List.{append-nil, map-append}
use Rattle.std.proofs.lemmas.List.Elements.{All-nil, All-head, All-tail, All-push, filter-append}
use Rattle.disk_model.specs.Disk.{History, EachImage, told_calls}
use Rattle.disk_model.proofs.MomentLemmas.{each_image-begins}
use Rattle.model_store.proofs.SettledLemmas.{settled_safe}
use Rattle.model_store.specs.Settled.{IsSettledFor}
use Rattle.mdbox_base.specs.declared.requests.Request.{Request}
use Rattle.mdbox_base.specs.declared.replies.Refusal.TheVariants as refusal
use Rattle.mdbox_base.specs.declared.replies.Reply.{Reply}
use Rattle.mdbox_base.specs.declared.replies.Reply.TheVariants as reply
use Rattle.model_lists.specs.Lists.{Lists}
use Rattle.list_machine.specs.Run.{RunEvent, Run, and_then, own_events}
use Rattle.journal.specs.Journal.{Requests, JournalStep, left_by, IsReplyOf, Broken, no_broken, HasReply, RoseBy, is_read_fault, AreBefore, steps_of}
use Rattle.journal.proofs.BrokenLemmas.{none_failed}
use Rattle.journal.proofs.JournalLemmas.{steps_within}
use Rattle.journal.specs.GoesOn.{RepliesAlso, MayReply}
use Rattle.journal.proofs.LegalLemmas.{legal_reply}
use Rattle.journal.proofs.ReachedLemmas.{get_last, legal_start, reached_last}
use Rattle.journal.proofs.OwnEventLemmas.{own_more, own_other}
use Rattle.journal.specs.Events.{Around, is_faulted}
use Rattle.journal.specs.Makes.{HasCome, steps_made}
use Rattle.mdbox_base.specs.declared.progress.Did.{Did}
use Rattle.mdbox_base.specs.declared.progress.Did.TheVariants as did
use Rattle.task_steps.proofs.UnmovedLemmas.{mail_still}
use Rattle.task_steps.specs.Step.{IsFirmAt, Seen, ShowsSeen, HasComeTo, Went, and_told, DidEvent}
use Rattle.task_steps.specs.Serves.{IsReached, Serves, IsTurn}

one_test : {X : Type 0} → (p : X → Bool) (x : X) (b : Bool) → p x ≡ b → filter p (x ∷ []) ≡ cond b (x ∷ []) []
one_test p x b e = ap (λ (c : Bool). cond c (x ∷ []) []) e

same_test : (a b : ℕ) → a ≡ b → (a == b) ≡ true
same_test a b e = grind (arith, common_steps, e)

other_test : (a b : ℕ) → a ≢ b → (a == b) ≡ false
other_test a b e = by_test (a == b) refl
  where
    by_test : (t : Bool) → (a == b) ≡ t → (a == b) ≡ false
    by_test true k = absurd (e (let h : a ≡ b = grind (arith, common_steps, k) in h))
    by_test false k = k

numbers_same : (a b : ℕ) → (a == b) ≡ true → a ≡ b
numbers_same a b e = grind (arith, common_steps, e)

-- ---- the steps of one request

-- the answers of a request's steps, as one more is made or none
pub answers_more : (run : Run) (request : Request) (journal : List JournalStep) (event : RunEvent) (answer : Option Reply) (left : Lists) (place : ℕ) → event.request ≡ place
    → map (λ s. s.answer) (steps_of place (journal ++ steps_made run request event answer left)) ≡ and_told (map (λ s. s.answer) (steps_of place journal)) answer
answers_more run request journal event None left place e = ap (λ (j : List JournalStep). map (λ (s : JournalStep). s.answer) (steps_of place j)) (append-nil journal)
answers_more run request journal event (Some answer) left place e =
    ap (map (λ (s : JournalStep). s.answer)) (filter-append (λ (s : JournalStep). s.request == place) journal _ ∙ ap (λ (l : List JournalStep). steps_of place journal ++ l) (one_test (λ (s : JournalStep). s.request == place) _ true (same_test event.request place e)))
    ∙ map-append (λ (s : JournalStep). s.answer) (steps_of place journal) _

pub steps_other : (run : Run) (request : Request) (journal : List JournalStep) (event : RunEvent) (answer : Option Reply) (left : Lists) (other : ℕ) → event.request ≢ other
    → steps_of other (journal ++ steps_made run request event answer left) ≡ steps_of other journal
steps_other run request journal event None left other e = ap (λ (j : List JournalStep). steps_of other j) (append-nil journal)
steps_other run request journal event (Some answer) left other e =
    (filter-append (λ (s : JournalStep). s.request == other) journal _ ∙ ap (λ (l : List JournalStep). steps_of other journal ++ l) (one_test (λ (s : JournalStep). s.request == other) _ false (other_test event.request other e)))
    ∙ append-nil (steps_of other journal)

-- Another request's own events and the answers of its steps stay: its task stands where it stood.
pub stage_stays : (run : Run) (request : Request) (journal : List JournalStep) (event : RunEvent) (answer : Option Reply) (left : Lists) (other : ℕ) → event.request ≢ other
    → (own_events other (and_then run event) ≡ own_events other run) × (map (λ s. s.answer) (steps_of other (journal ++ steps_made run request event answer left)) ≡ map (λ s. s.answer) (steps_of other journal))
stage_stays run request journal event answer left other e = (own_other other run event (other_test event.request other e), ap (map (λ (s : JournalStep). s.answer)) (steps_other run request journal event answer left other e))

-- Its own are those before and this one.
pub stage_comes : (run : Run) (request : Request) (journal : List JournalStep) (event : RunEvent) (answer : Option Reply) (left : Lists) (place : ℕ) → event.request ≡ place
    → (own_events place (and_then run event) ≡ own_events place run ++ event ∷ []) × (map (λ s. s.answer) (steps_of place (journal ++ steps_made run request event answer left)) ≡ and_told (map (λ s. s.answer) (steps_of place journal)) answer)
stage_comes run request journal event answer left place e = (own_more place run event (same_test event.request place e), answers_more run request journal event answer left place e)

-- ---- turns

-- A request that was not ended has its turn still.
pub turn_stays : (script : Requests) (run : Run) (journal : List JournalStep) (replies : List (Option Reply)) (lane place : ℕ) (request : Request) (event : RunEvent) (answer : Option Reply) (left : Lists) → event.request ≡ place
    → IsTurn script journal replies lane place request → IsTurn script (journal ++ steps_made run request event answer left) replies lane place request
turn_stays script run journal replies lane place request event answer left at t = record {
  asked = t.asked;
  unanswered = t.unanswered;
  first = pushed answer;
  later = λ j q lt e on. (steps_other run request journal event answer left j (λ same. absurd (omega (arith, lt, same, at))) ∙ (t.later j q lt e on).0, (t.later j q lt e on).1);
}
  where
    pushed : (a : Option Reply) → All (λ s. s.lane ≡ lane → s.request ≤ place) (journal ++ steps_made run request event a left)
    pushed None = subst (λ (j : List JournalStep). All (λ s. s.lane ≡ lane → s.request ≤ place) j) (sym (append-nil journal)) t.first
    pushed (Some a) = All-push (λ (s : JournalStep). s.lane ≡ lane → s.request ≤ place) journal _ t.first (λ e. omega (arith, at))

-- So has one of another lane.
pub turn_of_other : (script : Requests) (run : Run) (journal : List JournalStep) (replies after : List (Option Reply)) (lane place : ℕ) (request : Request) (event : RunEvent) (answer : Option Reply) (left : Lists) (own : ℕ) (other : Request) → event.request ≡ own → event.lane ≢ lane
    → slice_get script own ≡ Some (event.lane, other) → ((j : ℕ) → own ≢ j → slice_get after j ≡ slice_get replies j) → IsTurn script journal replies lane place request → IsTurn script (journal ++ steps_made run other event answer left) after lane place request
turn_of_other script run journal replies after lane place request event answer left own other at apart mine same t = record {
  asked = t.asked;
  unanswered = same place (elsewhere place (lane, request) t.asked refl) ∙ t.unanswered;
  first = pushed answer;
  later = λ j q lt e on. (
    steps_other run other journal event answer left j (λ k. elsewhere j q e on (sym at ∙ k)) ∙ (t.later j q lt e on).0,
    same j (elsewhere j q e on) ∙ (t.later j q lt e on).1,
  );
}
  where
    one : (a b : ℕ × Request) → Some a ≡ Some b → a ≡ b
    one a b e = cc e

    elsewhere : (j : ℕ) (q : ℕ × Request) → slice_get script j ≡ Some q → q.0 ≡ lane → own ≢ j
    elsewhere j q e on k = apart (ap (λ (x : ℕ × Request). x.0) (one (event.lane, other) q ((sym mine ∙ ap (λ (n : ℕ). slice_get script n) k) ∙ e)) ∙ on)

    pushed : (a : Option Reply) → All (λ s. s.lane ≡ lane → s.request ≤ place) (journal ++ steps_made run other event a left)
    pushed None = subst (λ (j : List JournalStep). All (λ s. s.lane ≡ lane → s.request ≤ place) j) (sym (append-nil journal)) t.first
    pushed (Some a) = All-push (λ (s : JournalStep). s.lane ≡ lane → s.request ≤ place) journal _ t.first (λ e. absurd (apart e))

-- ---- a reply

fall : (b : Bool) → b ≡ true → b ≡ false → ⊥
fall b t f = let k : true ≡ false = sym t ∙ f in cc k

none_where_stopped : (request : Request) (run : Run) (lists left : Lists) (event : RunEvent) (answer : Option Reply) (now new : Seen) (how : Did) → Went how request run lists left event answer now new → new.stopped ≡ true → answer ≡ None
none_where_stopped request run lists left event answer now new did.Quiet w e = w.0
none_where_stopped request run lists left event answer now new (did.Step half) w e = absurd (fall new.stopped e w.2)
none_where_stopped request run lists left event answer now new did.Failed w e = w.0.unanswered
none_where_stopped request run lists left event answer now new (did.Broken half) w e = w.0.unanswered

before_all : (i n : ℕ) (journal : List JournalStep) → All (λ s. s.event < n) journal → AreBefore (steps_of i journal) n
before_all i n [] a = tt
before_all i n (step ∷ steps) a = by_test (step.request == i) refl (before_all i n steps (All-tail (λ (s : JournalStep). s.event < n) step steps a))
  where
    by_test : (b : Bool) → (step.request == i) ≡ b → AreBefore (steps_of i steps) n → AreBefore (cond (step.request == i) (step ∷ steps_of i steps) (steps_of i steps)) n
    by_test true e rest = subst (λ (c : Bool). AreBefore (cond c (step ∷ steps_of i steps) (steps_of i steps)) n) (sym e) (All-head (λ (s : JournalStep). s.event < n) step steps a, rest)
    by_test false e rest = subst (λ (c : Bool). AreBefore (cond c (step ∷ steps_of i steps) (steps_of i steps)) n) (sym e) rest

none_given : (replies : List (Option Reply)) (j : ℕ) (given : Reply) → slice_get replies j ≡ Some None → HasReply replies j given → ⊥
none_given replies j given n h = let k : Some None ≡ Some (Some given) = sym n ∙ h in differ k
  where
    differ : Some None ≡ Some (Some given) → ⊥
    differ k = let z : None ≡ Some given = cc k in cc z

same_given : (replies : List (Option Reply)) (j : ℕ) (a b : Reply) → HasReply replies j a → HasReply replies j b → a ≡ b
same_given replies j a b x y = let z : Some (Some a) ≡ Some (Some b) = sym x ∙ y in let w : Some a ≡ Some b = cc z in cc w

fewer : (many n a b : ℕ) → many ≤ n → RoseBy n a b → RoseBy many a b
fewer many n a b le r = omega (arith, le, r)

some_one : (a b : Reply) → Some a ≡ Some b → a ≡ b
some_one a b e = cc e

-- The reply of an event that ended its request is taken into the replies.
pub reply_on : (start : Lists) (script : Requests) (run : Run) (journal : List JournalStep) (broken next : Broken) (replies given_also : List (Option Reply)) (began now new : Seen) (around after : Around) (lane place : ℕ) (request : Request) (how : Did) (given : Reply)
    → Serves start script run journal broken replies began now → IsTurn script journal replies lane place request → (d : DidEvent around after run lane place (map (λ s. s.answer) (steps_of place journal)) request (left_by start journal) now new how (Some given))
    → RepliesAlso replies given_also place given → count_by is_read_fault given_also ≤ count_by is_faulted (run.events ++ d.makes.event ∷ [])
    → Serves start script (and_then run d.makes.event) (journal ++ steps_made run request d.makes.event d.makes.answer d.left) next replies began new
    → Serves start script (and_then run d.makes.event) (journal ++ steps_made run request d.makes.event d.makes.answer d.left) next given_also began new
reply_on start script run journal broken next replies given_also began now new around after lane place request how given s turn d also few t = record {
  legal = legal_reply start script (and_then run d.makes.event) all replies given_also began.faults new.faults place given t.legal also may;
  begins = t.begins;
  come = t.come;
  shown = t.shown;
  within = t.within;
  broken_is = t.broken_is;
  of_failure = t.of_failure;
  crash = t.crash;
  timely = t.timely;
  unbroken = t.unbroken;
  stopped_by = t.stopped_by;
  unrefused = t.unrefused;
  settled = t.settled;
  firm = t.firm;
  mail = t.mail;
  reads = t.reads;
  changes = t.changes;
  fell = t.fell;
  halted = λ i h. halted i h (place == i) refl;
}
  where
    all : List JournalStep
    all = journal ++ steps_made run request d.makes.event d.makes.answer d.left

    stopped : given ≡ reply.Refused refusal.Stopped → new.stopped ≡ true
    stopped e = d.ends.halts.0 (ap (λ (r : Reply). Some r) e)

    halted : (i : ℕ) → HasReply given_also i (reply.Refused refusal.Stopped) → (b : Bool) → (place == i) ≡ b → new.stopped ≡ true
    halted i h true e = stopped (same_given given_also place given (reply.Refused refusal.Stopped) also.here (subst (λ (n : ℕ). HasReply given_also n (reply.Refused refusal.Stopped)) (sym (numbers_same place i e)) h))
    halted i h false e = t.halted i (sym (also.others i e) ∙ h)

    as_before : new.stopped ≡ true → all ≡ journal
    as_before e = ap (λ (a : Option Reply). journal ++ steps_made run request d.makes.event a d.left) (none_where_stopped request run (left_by start journal) d.left d.makes.event d.makes.answer now new how d.went e) ∙ append-nil journal

    may : MayReply script (and_then run d.makes.event) all replies given_also began.faults new.faults place given
    may = record {
      asked = (lane, request);
      request_is = turn.asked;
      by_steps = subst (λ (rs : List Reply). IsReplyOf request rs given) (sym (answers_more run request journal d.makes.event d.makes.answer d.left place d.makes.request_is)) (d.ends.replied given refl);
      reads = fewer (count_by is_read_fault given_also) (count_by is_faulted (run.events ++ d.makes.event ∷ [])) began.faults.reads new.faults.reads few t.reads;
      changes = λ e. t.fell (stopped e);
      unfinished = λ e. inr (
        length run.events,
        d.makes.event,
        get_last run.events d.makes.event,
        d.makes.request_is,
        subst (λ (j : List JournalStep). AreBefore (steps_of place j) (length run.events)) (sym (as_before (stopped e))) (before_all place (length run.events) journal (steps_within run script start journal s.legal.steps)),
      );
      later = λ e j second lt there on.
          let l = turn.later j second lt there (sym on) in (
            ap (λ (x : List JournalStep). steps_of j x) (as_before (stopped e)) ∙ l.0,
            λ r h. absurd (none_given replies j r l.1 h),
          );
      behind = λ k first h lt there on. inr (
          let was = s.halted k h in
          let is : new.stopped ≡ true = ap (λ (x : Seen). x.stopped) (d.ends.still was) ∙ was in
          some_one given (reply.Refused refusal.Stopped) (d.ends.halts.1 is)
          );
    }

-- ---- the beginning

none_there : (events : List RunEvent) (n : ℕ) (event : RunEvent) → events ≡ [] → slice_get events n ≡ Some event → ⊥
none_there events n event empty there = none_at n event (sym (ap (λ (es : List RunEvent). slice_get es n) empty) ∙ there)
  where
    none_at : (n : ℕ) (event : RunEvent) → slice_get [] n ≡ Some event → ⊥
    none_at zero event e = cc e
    none_at (suc n) event e = cc e

-- A store that isn't stopped serves from the lists that it shows, before any event.
pub serves_start : (start : Lists) (script : Requests) (run : Run) (replies : List (Option Reply)) (now : Seen) → run.events ≡ [] → HasComeTo run now → ShowsSeen now start → now.stopped ≡ false
    → ((i : ℕ) (given : Reply) → HasReply replies i given → ⊥) → count_by is_read_fault replies ≡ 0 → IsFirmAt start now → Serves start script run [] no_broken replies now now
serves_start start script run replies now empty come shows runs none faultless firm = record {
  legal = legal_start start script run replies now.faults empty none faultless;
  begins = record { map_is = at_start.map_is; drawn_is = at_start.drawn_is; moments = All-nil _ };
  come = come;
  shown = shows;
  within = omega arith;
  broken_is = tt;
  of_failure = none_failed run;
  crash = λ at. begins now.history at;
  timely = λ at n event state there. absurd (none_there run.events n event empty there);
  unbroken = λ e. refl;
  stopped_by = λ e. absurd (fall now.stopped e runs);
  unrefused = λ e. subst (λ (es : List RunEvent). All (λ event. event.refused ≢ Some refusal.Stopped) es) (sym empty) (All-nil _);
  settled = λ e at. at;
  firm = λ e at. firm at;
  mail = λ none. mail_still now.map now.history;
  reads = subst (λ (es : List RunEvent). RoseBy (count_by is_faulted es) now.faults.reads now.faults.reads) (sym empty) (omega arith);
  changes = omega arith;
  fell = λ e. absurd (fall now.stopped e runs);
  halted = λ i h. absurd (none i _ h);
}
  where
    at_start : HasCome (record run { events = [] }) now.map now.drawn (told_calls now.history)
    at_start = subst (λ (es : List RunEvent). HasCome (record run { events = es }) now.map now.drawn (told_calls now.history)) empty come.come

    begins : (h : Option History) → IsSettledFor start h → EachImage (IsReached start run [] no_broken) h h
    begins None at = absurd at
    begins (Some h) at = each_image-begins (IsReached start run [] no_broken) (Some h) (λ m image is. (start, reached_last start run [] no_broken m, settled_safe h.now start image at is))
