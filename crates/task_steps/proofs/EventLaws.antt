-- What an event of a request did, of any request and part: one that does its part, and one that is refused.
use Rattle.std.proofs.Common.{◌≡◌, ◌≤◌, ◌+◌, ℕ, Bool, true, false, List, [], ◌∷◌, ◌++◌, ◌⊎◌, Option, Some, None, refl, sym, ◌∙◌, ap, subst, arith, inl}
use Rattle.std.specs.Prelude.{◌≢◌, ◌↔◌, length, slice_get, is_some, All}
use Rattle.std.specs.Option.{IfSome, option_or}
use Rattle.std.proofs.lemmas.List.Elements.{All-nil}
use Rattle.disk_model.specs.Disk.{Faults, History, told_calls, Grows}
use Rattle.disk_model.specs.FaultCounts.{NoFault}
use Rattle.mdbox_base.specs.Streams.{Rose}
use Rattle.mdbox_base.specs.declared.entries.Highest.{Highest}
use Rattle.mdbox_base.specs.declared.progress.Did.{Did}
use Rattle.mdbox_base.specs.declared.progress.Did.TheVariants as did
use Rattle.mdbox_base.specs.declared.replies.Refusal.{Refusal}
use Rattle.mdbox_base.specs.declared.replies.Refusal.TheVariants as refusal
use Rattle.mdbox_base.specs.declared.replies.Reply.{Reply}
use Rattle.mdbox_base.specs.declared.replies.Reply.TheVariants as reply
use Rattle.mdbox_base.specs.declared.requests.Request.{Request}
use Rattle.mdbox_base.specs.declared.script.Half.{Half}
use Rattle.model_kept.specs.Kept.{MailIsKept}
use Rattle.model_lists.specs.Lists.{Lists}
use Rattle.model_meaning.specs.MapFits.{MapFits}
use Rattle.model_meaning.specs.MapMeaning.{MapMeaning, no_numbers}
use Rattle.list_machine.specs.Run.{EventPart, RunEvent, event_of, Run, and_then, map_of, own_events}
use Rattle.list_machine.specs.Machine.{is_step, first_refusal, part_checks, checks_of}
use Rattle.journal.specs.Journal.{half_of, halves_of, refusal_in, IsReplyOf}
use Rattle.journal.specs.Events.{Around, Finds, DidPart, MayMeet, draws, has_memory, reads_octets, next_part, behind_event, behind_refused, makes_step, last_refusal, IsRepliedBy, begun_in, ended_in}
use Rattle.journal.specs.Found.{AgreesWithRun}
use Rattle.journal.specs.Makes.{HasCome, StepOf}
use Rattle.task_steps.specs.Step.{Seen, ShowsSeen, HasComeTo, Went, Leads, IsFault, and_told, EndsRequest, GivesNew, DidEvent}
use Rattle.task_steps.specs.Tells.{LeavesFiles, TellsSame}
use Rattle.task_steps.proofs.KeptStoreLemmas.{StaysSo, comes_along, stays_itself}
use Rattle.task_steps.proofs.SeenLemmas.{comes_to_on, no_guids}
use Rattle.task_steps.proofs.UnmovedLemmas.{mail_still, nothing}

-- ---- small facts

pub fall : (b : Bool) → b ≡ true → b ≡ false → ⊥
fall b t f = let k : true ≡ false = sym t ∙ f in cc k

pub no_refusal : (r : Refusal) → None ≡ Some r → ⊥
no_refusal r e = cc e

pub some_refusal : (r : Refusal) → Some r ≡ None → ⊥
some_refusal r e = cc e

pub one_refusal : (a b : Refusal) → Some a ≡ Some b → a ≡ b
one_refusal a b e = cc e

pub no_reply : (r : Reply) → None ≡ Some r → ⊥
no_reply r e = cc e

pub some_reply : (r : Reply) → Some r ≡ None → ⊥
some_reply r e = cc e

pub one_reply : (a b : Reply) → Some a ≡ Some b → a ≡ b
one_reply a b e = cc e

pub unstepped : false ≡ true → ⊥
unstepped e = cc e

-- a reply that follows from the answers is that of a request that ends with it
pub replied_so : (q : Request) (said : List Reply) (is : Reply) → IsReplyOf q said is → (given : Reply) → Some is ≡ Some given → IsReplyOf q said given
replied_so q said is follows given e = subst (λ (r : Reply). IsReplyOf q said r) (one_reply is given e) follows

-- a refusal that is a step may be met by any part
pub step_may : (part : EventPart) (q : Request) (why : Refusal) → is_step why ≡ true → MayMeet part q why
step_may part q refusal.ReadFault s = absurd (unstepped s)
step_may part q (refusal.Damaged file offset) s = absurd (unstepped s)
step_may part q why s = tt

-- ---- what an event did

-- What holds of a disk whatever the event did: it tells no fewer calls, and at each moment has what this map needed.
pub record Lasts (m : MapMeaning) (before after : Option History) : Type 0 where
  pub grows : Grows before after
  pub mail : MailIsKept m before after

-- This is what an event did; it was this event, with this answer.
pub record DidBy (around after : Around) (run : Run) (lane place : ℕ) (said : List Reply) (q : Request) (lists : Lists) (old new : Seen) (how : Did) (ended : Option Reply) (event : RunEvent) (answer : Option Reply) : Type 0 where
  pub so : DidEvent around after run lane place said q lists old new how ended
  pub event_is : so.makes.event ≡ event
  pub answer_is : so.makes.answer ≡ answer

pub stands_by : (around after : Around) (run : Run) (lane place : ℕ) (said : List Reply) (q : Request) (lists : Lists) (old new : Seen) (how : Did) (ended : Option Reply) (event : RunEvent) (answer : Option Reply) (Stands : Run → ℕ → List Reply → Type 0)
    → DidBy around after run lane place said q lists old new how ended event answer → (ended ≡ None → Stands (and_then run event) place (and_told said answer))
    → (d : DidEvent around after run lane place said q lists old new how ended) × (ended ≡ None → Stands (and_then run d.makes.event) place (and_told said d.makes.answer))
stands_by around after run lane place said q lists old new how ended event answer Stands d stands =
    (d.so, λ goes_on. subst (λ (e : RunEvent). Stands (and_then run e) place (and_told said d.so.makes.answer)) (sym d.event_is) (subst (λ (a : Option Reply). Stands (and_then run event) place (and_told said a)) (sym d.answer_is) (stands goes_on)))

-- ---- an event that does its part

-- It is of this lane and request, ends its request with this or not, and ends at this moment. It isn't refused.
pub record IsOwnEvent (lane place calls : ℕ) (ended : Option Reply) (event : RunEvent) : Type 0 where
  pub lane_is : event.lane ≡ lane
  pub request_is : event.request ≡ place
  pub moment_is : event.moment ≡ calls
  pub ended_is : event.reply ≡ ended
  pub unrefused : event.refused ≡ None

pub own_event : (event : RunEvent) → event.refused ≡ None → IsOwnEvent event.lane event.request event.moment event.reply event
own_event event unrefused = record { lane_is = refl; request_is = refl; moment_is = refl; ended_is = refl; unrefused = unrefused }

-- It does its part.
pub record DoesPart (around after : Around) (run : Run) (lane place : ℕ) (q : Request) (lists : Lists) (calls : ℕ) (ended : Option Reply) (event : RunEvent) : Type 0 where
  pub own : IsOwnEvent lane place calls ended event
  pub finds : Finds around q event
  pub found : AgreesWithRun around run q event event.part
  pub part_is : next_part around run q (own_events event.request run) ≡ Some event.part
  pub allowed : first_refusal run lists (checks_of run q event) ≡ None
  pub did : DidPart around run lists q event event.part
  pub fits : All (MapFits (map_of run)) event.map_entries
  pub ends : (event.reply ≢ None) ↔ (behind_event after (and_then run event) q event event.refused ≡ None)
  pub replied : IsRepliedBy (own_events event.request run ++ event ∷ []) event.reply

pub did_part : (around after : Around) (run : Run) (lane place : ℕ) (said : List Reply) (q : Request) (lists left : Lists) (old new : Seen) (how : Did) (ended answer : Option Reply) (event : RunEvent) → DoesPart around after run lane place q lists (told_calls new.history) ended event
    → HasComeTo (and_then run event) new → GivesNew run event → ShowsSeen new left → Lasts old.map old.history new.history
    → is_some answer ≡ makes_step q event.part event.refused → StepOf run q lists event answer left → Went how q run lists left event answer old new → EndsRequest q said event answer ended how old new
    → DidBy around after run lane place said q lists old new how ended event answer
did_part around after run lane place said q lists left old new how ended answer event does comes gives shows lasts told made went ends = record {
  so = record {
    left = left;
    shown = shows;
    found = does.found;
    makes = record {
      event = event;
      lane_is = does.own.lane_is;
      request_is = does.own.request_is;
      moment_is = does.own.moment_is;
      ended_is = does.own.ended_is;
      is_event = record {
        finds = does.finds;
        part_is = does.part_is;
        refused = λ r e. absurd (no_refusal r (sym does.own.unrefused ∙ e));
        undone = λ r e. absurd (no_refusal r (sym does.own.unrefused ∙ e));
        drew = λ h. absurd (h does.own.unrefused);
        memory = λ e. absurd (no_refusal refusal.NoMemory (sym does.own.unrefused ∙ e));
        may = subst (λ (r : Option Refusal). IfSome r (MayMeet event.part q)) (sym does.own.unrefused) tt;
        allowed = λ e. does.allowed;
        did = λ e. does.did;
        fits = does.fits;
        ends = does.ends;
        replied = does.replied;
      };
      answer = answer;
      is_told = told;
      made = made;
      come = comes.come;
    };
    come = comes;
    gives = gives;
    went = went;
    grows = lasts.grows;
    mail = lasts.mail;
    ends = ends;
  };
  event_is = refl;
  answer_is = refl;
}

-- So does one that leaves files, instances and GUIDs.
pub did_own : (around after : Around) (run : Run) (lane place : ℕ) (said : List Reply) (q : Request) (lists left : Lists) (old new : Seen) (how : Did) (ended answer : Option Reply) (event : RunEvent) → DoesPart around after run lane place q lists (told_calls new.history) ended event → LeavesFiles event → HasComeTo run old
    → HasCome (and_then run event) new.map new.drawn (told_calls new.history) → ((uid : ℕ) → new.due uid + ended_in uid event ≡ old.due uid + begun_in uid event) → TellsSame old new → ShowsSeen new left → Grows old.history new.history → MailIsKept old.map old.history new.history
    → is_some answer ≡ makes_step q event.part event.refused → StepOf run q lists event answer left → Went how q run lists left event answer old new → EndsRequest q said event answer ended how old new
    → DidBy around after run lane place said q lists old new how ended event answer
did_own around after run lane place said q lists left old new how ended answer event does leaves come comes due tells shows grows mail told made went ends =
    did_part around after run lane place said q lists left old new how ended answer event does (comes_to_on run event old new come comes due leaves tells) (no_guids run event leaves.given) shows (record { grows = grows; mail = mail }) told made went ends

pub same_reads : (began faulted : Faults) → NoFault began faulted → began.reads ≤ faulted.reads
same_reads began faulted same = let e = ap (λ (f : Faults). f.reads) same in omega (arith, e)

pub same_changes : (began faulted : Faults) → NoFault began faulted → began.changes ≤ faulted.changes
same_changes began faulted same = let e = ap (λ (f : Faults). f.changes) same in omega (arith, e)

-- the end of an event that isn't refused, of a store that isn't stopped before or afterwards
pub ends_well : (q : Request) (said : List Reply) (event : RunEvent) (answer ended : Option Reply) (how : Did) (old new : Seen) → event.refused ≡ None → old.stopped ≡ false → new.stopped ≡ false → NoFault old.faults new.faults → (IsFault how → ⊥)
    → (ended ≡ Some (reply.Refused refusal.Stopped) → ⊥) → (is_some answer ≡ true → slice_get (halves_of q) (length said) ≡ Some (half_of q event.part)) → ((given : Reply) → ended ≡ Some given → IsReplyOf q (and_told said answer) given) → EndsRequest q said event answer ended how old new
ends_well q said event answer ended how old new unrefused ran runs quiet faultless unstopped turn replied = record {
  in_turn = turn;
  replied = replied;
  halts = record { 0 = λ e. absurd (unstopped e); 1 = λ e. absurd (fall new.stopped e runs) };
  still = λ e. absurd (fall old.stopped e ran);
  reads = λ e. absurd (no_refusal refusal.ReadFault (sym unrefused ∙ e));
  faults = record { reads = same_reads old.faults new.faults quiet; changes = same_changes old.faults new.faults quiet; rose = λ x. absurd (faultless x) };
  unfailed = λ read other. quiet;
}

-- ---- an event that is refused

-- It did nothing, but may have drawn numbers.
abbrev pub refusal_event : ℕ → ℕ → EventPart → Refusal → Option Reply → Highest → ℕ → RunEvent
refusal_event lane place part why ended drew calls = record (event_of lane place part calls) { refused = Some why; reply = ended; drew = drew }

-- the last refusal is that of the last event, if it was refused
pub last_with : (own : List RunEvent) (event : RunEvent) (why : Refusal) → event.refused ≡ Some why → last_refusal (own ++ event ∷ []) ≡ Some why
last_with [] event why e = ap (λ (r : Option Refusal). option_or None r) e
last_with (x ∷ xs) event why e = ap (λ (r : Option Refusal). option_or r x.refused) (last_with xs event why e)

replied_by : (own : List RunEvent) (event : RunEvent) (why : Refusal) (ended : Option Reply) → event.refused ≡ Some why → ((given : Reply) → ended ≡ Some given → refusal_in given ≡ Some why) → IsRepliedBy (own ++ event ∷ []) ended
replied_by own event why None e h = tt
replied_by own event why (Some given) e h = last_with own event why e ∙ sym (h given refl)

-- A part of a request can be refused by this, having drawn these numbers; its request ends with it or goes on.
pub record CanRefuse (around : Around) (run : Run) (place : ℕ) (q : Request) (part : EventPart) (why : Refusal) (ended : Option Reply) (drew : Highest) : Type 0 where
  pub finds : (lane calls : ℕ) → Finds around q (refusal_event lane place part why ended drew calls)
  pub found : (lane calls : ℕ) → AgreesWithRun around run q (refusal_event lane place part why ended drew calls) part
  pub part_is : next_part around run q (own_events place run) ≡ Some part
  pub ends : (ended ≢ None) ↔ (behind_refused q part why ≡ None)
  pub replied : (given : Reply) → ended ≡ Some given → refusal_in given ≡ Some why

-- The request ends with it.
pub refuses : (around : Around) (run : Run) (place : ℕ) (q : Request) (part : EventPart) (why : Refusal) (drew : Highest) → ((lane calls : ℕ) → Finds around q (refusal_event lane place part why (Some (reply.Refused why)) drew calls))
    → ((lane calls : ℕ) → AgreesWithRun around run q (refusal_event lane place part why (Some (reply.Refused why)) drew calls) part) → next_part around run q (own_events place run) ≡ Some part → behind_refused q part why ≡ None → CanRefuse around run place q part why (Some (reply.Refused why)) drew
refuses around run place q part why drew finds found next behind = record {
  finds = finds;
  found = found;
  part_is = next;
  ends = record { 0 = λ e. behind; 1 = λ e f. some_reply (reply.Refused why) f };
  replied = λ given e. subst (λ (r : Reply). refusal_in r ≡ Some why) (one_reply (reply.Refused why) given e) refl;
}

-- What it leaves: the run with it has come to the store, which shows the lists; no count of faults fell.
pub record LeftBy (run : Run) (event : RunEvent) (lists : Lists) (old new : Seen) : Type 0 where
  pub comes : HasComeTo (and_then run event) new
  pub shows : ShowsSeen new lists
  pub lasts : Lasts old.map old.history new.history
  pub reads : old.faults.reads ≤ new.faults.reads
  pub changes : old.faults.changes ≤ new.faults.changes

-- which numbers a part may have drawn
abbrev pub MayDraw : Run → Request → EventPart → Highest → Type 0
MayDraw run q part drew = (event : RunEvent) → (drew ≡ no_numbers) ⊎ (drew ≡ draws run event q part)

pub did_refused : (around after : Around) (run : Run) (lane place : ℕ) (said : List Reply) (q : Request) (part : EventPart) (lists : Lists) (old new : Seen) (why : Refusal) (ended answer : Option Reply) (how : Did) (drew : Highest) → CanRefuse around run place q part why ended drew
    → LeftBy run (refusal_event lane place part why ended drew (told_calls new.history)) lists old new → MayMeet part q why → (why ≡ refusal.NoMemory → has_memory part q ≡ false) → MayDraw run q part drew → (is_step why ≡ true → drew ≡ no_numbers)
    → (is_step why ≡ true → first_refusal run lists (part_checks run (refusal_event lane place part why ended drew (told_calls new.history)) q part) ≡ Some why) → is_some answer ≡ is_step why
    → StepOf run q lists (refusal_event lane place part why ended drew (told_calls new.history)) answer lists → Went how q run lists lists (refusal_event lane place part why ended drew (told_calls new.history)) answer old new
    → EndsRequest q said (refusal_event lane place part why ended drew (told_calls new.history)) answer ended how old new
    → DidBy around after run lane place said q lists old new how ended (refusal_event lane place part why ended drew (told_calls new.history)) answer
did_refused around after run lane place said q part lists old new why ended answer how drew can left may memory drawn undrawn checks told made went ends = record {
  so = record {
    left = lists;
    shown = left.shows;
    found = can.found lane (told_calls new.history);
    makes = record {
      event = event;
      lane_is = refl;
      request_is = refl;
      moment_is = refl;
      ended_is = refl;
      is_event = record {
        finds = can.finds lane (told_calls new.history);
        part_is = can.part_is;
        refused = λ r e s. checks (ap is_step (one_refusal why r e) ∙ s) ∙ e;
        undone = λ r e. (refl, λ s. undrawn (ap is_step (one_refusal why r e) ∙ s));
        drew = λ h. drawn event;
        memory = λ e. memory (one_refusal why refusal.NoMemory e);
        may = may;
        allowed = λ e. absurd (some_refusal why e);
        did = λ e. absurd (some_refusal why e);
        fits = All-nil (MapFits (map_of run));
        ends = can.ends;
        replied = replied_by (own_events place run) event why ended refl can.replied;
      };
      answer = answer;
      is_told = told;
      made = made;
      come = left.comes.come;
    };
    come = left.comes;
    gives = no_guids run event refl;
    went = went;
    grows = left.lasts.grows;
    mail = left.lasts.mail;
    ends = ends;
  };
  event_is = refl;
  answer_is = refl;
}
  where
    event : RunEvent
    event = refusal_event lane place part why ended drew (told_calls new.history)

-- By a check: a step.
pub step_calm : (why other : Refusal) → is_step why ≡ true → is_step other ≡ false → why ≡ other → ⊥
step_calm why other s t e = fall (is_step why) s (ap is_step e ∙ t)

pub did_check : (around after : Around) (run : Run) (lane place : ℕ) (said : List Reply) (q : Request) (part : EventPart) (lists : Lists) (old new : Seen) (why : Refusal) (ended : Option Reply) (half : Half) → CanRefuse around run place q part why ended no_numbers
    → LeftBy run (refusal_event lane place part why ended no_numbers (told_calls new.history)) lists old new → old.stopped ≡ false → new.stopped ≡ false → Leads lists lists old new → NoFault old.faults new.faults
    → is_step why ≡ true → half_of q part ≡ half → slice_get (halves_of q) (length said) ≡ Some (half_of q part) → ((event : RunEvent) → first_refusal run lists (part_checks run event q part) ≡ Some why) → ((given : Reply) → ended ≡ Some given → IsReplyOf q (said ++ reply.Refused why ∷ []) given)
    → DidBy around after run lane place said q lists old new (did.Step half) ended (refusal_event lane place part why ended no_numbers (told_calls new.history)) (Some (reply.Refused why))
did_check around after run lane place said q part lists old new why ended half can left ran runs leads quiet step half_is turn checks replied =
    did_refused around after run lane place said q part lists old new why ended (Some (reply.Refused why)) (did.Step half) no_numbers can left (step_may part q why step) (λ e. absurd (step_calm why refusal.NoMemory step refl e)) (λ event. inl refl) (λ s. refl) (λ s. checks event) (sym step) ((checks event, refl), refl)
    (refl, half_is, runs, leads) (record {
      in_turn = λ some. turn;
      replied = replied;
      halts = record { 0 = λ e. absurd (step_calm why refusal.Stopped step refl (one_refusal why refusal.Stopped (sym (can.replied (reply.Refused refusal.Stopped) e)))); 1 = λ e. absurd (fall new.stopped e runs) };
      still = λ e. absurd (fall old.stopped e ran);
      reads = λ e. absurd (step_calm why refusal.ReadFault step refl (one_refusal why refusal.ReadFault e));
      faults = record { reads = left.reads; changes = left.changes; rose = λ x. absurd x };
      unfailed = λ read other. quiet;
    })
  where
    event : RunEvent
    event = refusal_event lane place part why ended no_numbers (told_calls new.history)

-- the answers of a request that ends so
abbrev pub stopped_answer : Option Reply
stopped_answer = Some (reply.Refused refusal.Stopped)

abbrev pub misread_answer : Option Reply
misread_answer = Some (reply.Refused refusal.ReadFault)

refusals_apart : (a b : Refusal) → (a ≡ b → ⊥) → Some a ≡ Some b → ⊥
refusals_apart a b other e = other (one_refusal a b e)

-- Out of memory.
pub did_forget : (around after : Around) (run : Run) (lane place : ℕ) (said : List Reply) (q : Request) (part : EventPart) (lists : Lists) (old new : Seen) (ended : Option Reply) (drew : Highest) → CanRefuse around run place q part refusal.NoMemory ended drew
    → LeftBy run (refusal_event lane place part refusal.NoMemory ended drew (told_calls new.history)) lists old new → old.stopped ≡ false → new.stopped ≡ false → Leads lists lists old new → NoFault old.faults new.faults → has_memory part q ≡ false → MayDraw run q part drew → ((given : Reply) → ended ≡ Some given → IsReplyOf q said given)
    → DidBy around after run lane place said q lists old new did.Quiet ended (refusal_event lane place part refusal.NoMemory ended drew (told_calls new.history)) None
did_forget around after run lane place said q part lists old new ended drew can left ran runs leads quiet memory drawn replied =
    did_refused around after run lane place said q part lists old new refusal.NoMemory ended None did.Quiet drew can left tt (λ e. memory) drawn (λ s. absurd (unstepped s)) (λ s. absurd (unstepped s)) refl refl (refl, runs ∙ sym ran, leads) (record {
      in_turn = λ some. absurd (unstepped some);
      replied = replied;
      halts = record { 0 = λ e. absurd (refusals_apart refusal.Stopped refusal.NoMemory (λ k. cc k) (can.replied (reply.Refused refusal.Stopped) e)); 1 = λ e. absurd (fall new.stopped e runs) };
      still = λ e. absurd (fall old.stopped e ran);
      reads = λ e. absurd (refusals_apart refusal.NoMemory refusal.ReadFault (λ k. cc k) e);
      faults = record { reads = left.reads; changes = left.changes; rose = λ x. absurd x };
      unfailed = λ read other. quiet;
    })

-- A read failed, and the request ends with that.
pub did_misread : (around after : Around) (run : Run) (lane place : ℕ) (said : List Reply) (q : Request) (part : EventPart) (lists : Lists) (old new : Seen) → CanRefuse around run place q part refusal.ReadFault misread_answer no_numbers
    → LeftBy run (refusal_event lane place part refusal.ReadFault misread_answer no_numbers (told_calls new.history)) lists old new → old.stopped ≡ false → new.stopped ≡ false → Leads lists lists old new → reads_octets part q ≡ true → Rose old.faults.reads new.faults.reads
    → DidBy around after run lane place said q lists old new did.Quiet misread_answer (refusal_event lane place part refusal.ReadFault misread_answer no_numbers (told_calls new.history)) None
did_misread around after run lane place said q part lists old new can left ran runs leads octets rose =
    did_refused around after run lane place said q part lists old new refusal.ReadFault misread_answer None did.Quiet no_numbers can left octets (λ e. absurd (let k : refusal.ReadFault ≡ refusal.NoMemory = e in cc k)) (λ event. inl refl) (λ s. refl) (λ s. absurd (unstepped s)) refl refl (refl, runs ∙ sym ran, leads) (record {
      in_turn = λ some. absurd (unstepped some);
      replied = replied_so q said (reply.Refused refusal.ReadFault) tt;
      halts = record { 0 = λ e. absurd (refusals_apart refusal.Stopped refusal.ReadFault (λ k. cc k) (can.replied (reply.Refused refusal.Stopped) e)); 1 = λ e. absurd (fall new.stopped e runs) };
      still = λ e. absurd (fall old.stopped e ran);
      reads = λ e. rose;
      faults = record { reads = left.reads; changes = left.changes; rose = λ x. absurd x };
      unfailed = λ read. absurd (read refl);
    })

-- The store is stopped, or stops: no step (`went`).
did_halt : (around after : Around) (run : Run) (lane place : ℕ) (said : List Reply) (q : Request) (part : EventPart) (lists : Lists) (old new : Seen) (how : Did) (drew : Highest) → CanRefuse around run place q part refusal.Stopped stopped_answer drew
    → LeftBy run (refusal_event lane place part refusal.Stopped stopped_answer drew (told_calls new.history)) lists old new → new.stopped ≡ true → MayDraw run q part drew → (old.stopped ≡ true → new ≡ record old { pins = new.pins }) → (IsFault how → Rose old.faults.changes new.faults.changes) → ((IsFault how → ⊥) → NoFault old.faults new.faults)
    → Went how q run lists lists (refusal_event lane place part refusal.Stopped stopped_answer drew (told_calls new.history)) None old new
    → DidBy around after run lane place said q lists old new how stopped_answer (refusal_event lane place part refusal.Stopped stopped_answer drew (told_calls new.history)) None
did_halt around after run lane place said q part lists old new how drew can left stopped drawn still rose unfailed went =
    did_refused around after run lane place said q part lists old new refusal.Stopped stopped_answer None how drew can left tt (λ e. absurd (let k : refusal.Stopped ≡ refusal.NoMemory = e in cc k)) drawn (λ s. absurd (unstepped s)) (λ s. absurd (unstepped s)) refl refl went (record {
      in_turn = λ some. absurd (unstepped some);
      replied = replied_so q said (reply.Refused refusal.Stopped) tt;
      halts = record { 0 = λ e. stopped; 1 = λ e. refl };
      still = still;
      reads = λ e. absurd (refusals_apart refusal.Stopped refusal.ReadFault (λ k. cc k) e);
      faults = record { reads = left.reads; changes = left.changes; rose = rose };
      unfailed = λ read. unfailed;
    })

-- A change of the disk failed: it was no step, or would have been one (`went`).
pub did_fall : (around after : Around) (run : Run) (lane place : ℕ) (said : List Reply) (q : Request) (part : EventPart) (lists : Lists) (old new : Seen) (how : Did) (drew : Highest) → CanRefuse around run place q part refusal.Stopped stopped_answer drew
    → LeftBy run (refusal_event lane place part refusal.Stopped stopped_answer drew (told_calls new.history)) lists old new → old.stopped ≡ false → new.stopped ≡ true → Rose old.faults.changes new.faults.changes → MayDraw run q part drew → IsFault how
    → Went how q run lists lists (refusal_event lane place part refusal.Stopped stopped_answer drew (told_calls new.history)) None old new
    → DidBy around after run lane place said q lists old new how stopped_answer (refusal_event lane place part refusal.Stopped stopped_answer drew (told_calls new.history)) None
did_fall around after run lane place said q part lists old new how drew can left ran stopped rose drawn faulty went =
    did_halt around after run lane place said q part lists old new how drew can left stopped drawn (λ e. absurd (fall old.stopped e ran)) (λ x. rose) (λ calm. absurd (calm faulty)) went

-- What it leaves of a store that stays as it is, but for its disk.
pub stays_left : (run : Run) (lane place : ℕ) (part : EventPart) (why : Refusal) (ended : Option Reply) (lists : Lists) (old new : Seen) → HasComeTo run old → StaysSo old new → ShowsSeen new lists → LeftBy run (refusal_event lane place part why ended no_numbers (told_calls new.history)) lists old new
stays_left run lane place part why ended lists old new come s shows =
    let event : RunEvent = refusal_event lane place part why ended no_numbers (told_calls new.history) in
    record {
      comes = comes_to_on run event old new come (comes_along run event old new come s.map s.drawn s.grows refl refl refl) (λ uid. let d = s.due uid in omega (arith, d)) (record { made = refl; pins = refl; unpins = refl; doomed = refl; removed = refl; given = refl; placed = refl; gone = refl }) s.tells;
      shows = shows;
      lasts = record { grows = s.grows; mail = s.mail };
      reads = s.reads;
      changes = s.changes;
    }

-- The store was stopped.
pub did_stop : (around after : Around) (run : Run) (lane place : ℕ) (said : List Reply) (q : Request) (part : EventPart) (lists : Lists) (seen : Seen) → CanRefuse around run place q part refusal.Stopped stopped_answer no_numbers → HasComeTo run seen → ShowsSeen seen lists → seen.stopped ≡ true
    → DidBy around after run lane place said q lists seen seen did.Quiet stopped_answer (refusal_event lane place part refusal.Stopped stopped_answer no_numbers (told_calls seen.history)) None
did_stop around after run lane place said q part lists seen can come shows stopped =
    did_halt around after run lane place said q part lists seen seen did.Quiet no_numbers can (stays_left run lane place part refusal.Stopped stopped_answer lists seen seen come (stays_itself seen) shows) stopped (λ event. inl refl) (λ e. refl) (λ x. absurd x) (λ calm. refl) (refl, refl, nothing lists seen)
