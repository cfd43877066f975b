-- What an event of a purge is, in a run and on a disk.
use Rattle.purge_task.proofs.Common.{◌≡◌, ℕ, false, List, [], length, Some, None, refl, sym, ◌∙◌, ap, arith, slice_get, All-nil, Grows, told_calls, NoFault, Refusal, Reply, MailIsKept, Lists, MapFits, no_numbers, EventPart, First, Last, Run, RunEvent, and_then, event_of, map_of, own_events}
use Rattle.purge_task.proofs.Common.{first_refusal, Around, last_refusal, next_part, DidEvent, HasComeTo, Seen, ShowsSeen, DidBy, fall, mail_still}
use Rattle.std.specs.Prelude.{All}
use Rattle.mdbox_base.specs.declared.progress.Did.TheVariants as did
use Rattle.mdbox_base.specs.declared.progress.Progress.TheVariants as progress
use Rattle.mdbox_base.specs.declared.replies.Refusal.TheVariants as refusal
use Rattle.mdbox_base.specs.declared.replies.Reply.TheVariants as reply
use Rattle.mdbox_base.specs.declared.requests.Request.TheVariants as request
use Rattle.mdbox_base.specs.declared.script.Half.TheVariants as half
use Rattle.list_machine.specs.Machine.{ArePurged, checks_of}
use Rattle.journal.specs.Journal.{halves_of}
use Rattle.journal.specs.Events.{DidPart, Finds, TellsFiles, behind_event, is_step_part}
use Rattle.journal.specs.Found.{AgreesWithRun, has_looked}
use Rattle.task_steps.specs.Step.{Leads}
use Rattle.task_steps.proofs.EventLaws.{CanRefuse, did_own, did_part, ends_well, no_reply, own_event, refusal_event, refuses, some_reply, unstepped}
use Rattle.task_steps.proofs.KeptStoreLemmas.{comes_along}
use Rattle.task_steps.proofs.OneEventLemmas.{first_reply}
use Rattle.task_steps.proofs.UnmovedLemmas.{nothing}
use Rattle.task_steps.proofs.SeenLemmas.{no_guids, tells_itself}
use Rattle.purge_task.proofs.PartLemmas.{last_with}

-- one that is so refused is refused no other way
pub same_refusal : (a b : Refusal) → progress.Done (reply.Refused a) ≡ progress.Done (reply.Refused b) → b ≡ a
same_refusal a b e = let k : reply.Refused a ≡ reply.Refused b = cc e in let w : a ≡ b = cc k in sym w

-- ---- an event that was refused

-- where the purge found no files, it tells none
none_told : (around : Around) (lane place : ℕ) (why : Refusal) (calls : ℕ) → around.files ≡ [] → (part : EventPart) → TellsFiles around (refusal_event lane place part why (Some (reply.Refused why)) no_numbers calls) part
none_told around lane place why calls none First = sym none
none_told around lane place why calls none part = tt

-- Any part may be refused before anything was looked at.
pub purge_refuses : (around : Around) (run : Run) (place : ℕ) (part : EventPart) (why : Refusal) → next_part around run request.Purge (own_events place run) ≡ Some part → around.files ≡ [] → has_looked (Some why) ≡ false → CanRefuse around run place request.Purge part why (Some (reply.Refused why)) no_numbers
purge_refuses around run place part why next none unlooked = refuses around run place request.Purge part why no_numbers (λ lane calls. none_told around lane place why calls none part) (λ lane calls looked. absurd (fall (has_looked (Some why)) looked unlooked)) next refl

-- ---- an event that did its part

-- what it did, as an event of this lane and request that ended at this moment, was refused by nothing and gives no reply
abbrev pub done_event : RunEvent → ℕ → ℕ → ℕ → RunEvent
done_event what lane place calls = record what { lane = lane; request = place; refused = None; reply = None; moment = calls }

-- What an event owes of its run, to be the next one of a purge that goes on.
pub record IsNextDone (around after : Around) (run : Run) (place : ℕ) (lists : Lists) (event : RunEvent) : Type 0 where
  pub next : next_part around run request.Purge (own_events place run) ≡ Some event.part
  pub finds : Finds around request.Purge event
  pub allowed : first_refusal run lists (checks_of run request.Purge event) ≡ None
  pub did : DidPart around run lists request.Purge event event.part
  pub fits : All (MapFits (map_of run)) event.map_entries
  pub no_step : is_step_part request.Purge event.part ≡ false
  pub goes_on : behind_event after (and_then run event) request.Purge event None ≡ None → ⊥
  pub found : AgreesWithRun around run request.Purge event event.part
  pub no_guid : event.given ≡ []

-- It did its part, and the request goes on.
pub did_next : (around after : Around) (run : Run) (lane place : ℕ) (said : List Reply) (lists : Lists) (old new : Seen) (what : RunEvent) → IsNextDone around after run place lists (done_event what lane place (told_calls new.history)) → HasComeTo (and_then run (done_event what lane place (told_calls new.history))) new
    → ShowsSeen new lists → old.stopped ≡ false → new.stopped ≡ false → Leads lists lists old new → Grows old.history new.history → MailIsKept old.map old.history new.history → NoFault old.faults new.faults
    → DidBy around after run lane place said request.Purge lists old new did.Quiet None (done_event what lane place (told_calls new.history)) None
did_next around after run lane place said lists old new what is come shows ran runs leads grows mail quiet =
    let event : RunEvent = done_event what lane place (told_calls new.history) in
    did_part around after run lane place said request.Purge lists lists old new did.Quiet None None event
    (record {
      own = own_event event refl;
      finds = is.finds;
      found = is.found;
      part_is = is.next;
      allowed = is.allowed;
      did = is.did;
      fits = is.fits;
      ends = record { 0 = λ h. absurd (h refl); 1 = λ e. absurd (is.goes_on e) };
      replied = tt;
    }) come (no_guids run event is.no_guid) shows (record { grows = grows; mail = mail }) (sym is.no_step) refl (refl, runs ∙ sym ran, leads)
    (ends_well request.Purge said event None None did.Quiet old new refl ran runs quiet (λ x. x) (λ e. no_reply (reply.Refused refusal.Stopped) e) (λ some. absurd (unstepped some)) (λ given e. absurd (no_reply given e)))

-- ---- the last event

abbrev pub last_event : ℕ → ℕ → Reply → ℕ → RunEvent
last_event lane place given calls = record (event_of lane place Last calls) { reply = Some given }

purged_runs : (dropped files instances : ℕ) → Some (reply.Purged dropped files instances) ≡ Some (reply.Refused refusal.Stopped) → ⊥
purged_runs dropped files instances e = let k : reply.Purged dropped files instances ≡ reply.Refused refusal.Stopped = cc e in cc k

-- The last event replies the numbers: a step of a store that has not changed.
pub did_last : (around after : Around) (run : Run) (lane place : ℕ) (said : List Reply) (lists : Lists) (seen : Seen) (dropped files instances : ℕ) → HasComeTo run seen → ShowsSeen seen lists → seen.stopped ≡ false → next_part around run request.Purge (own_events place run) ≡ Some Last
    → last_refusal (own_events place run) ≡ None → said ≡ [] → ArePurged run (last_event lane place (reply.Purged dropped files instances) (told_calls seen.history)) dropped files instances → AgreesWithRun around run request.Purge (last_event lane place (reply.Purged dropped files instances) (told_calls seen.history)) Last
    → DidEvent around after run lane place said request.Purge lists seen seen (did.Step half.Whole) (Some (reply.Purged dropped files instances))
did_last around after run lane place said lists seen dropped files instances come shows runs next unrefused unsaid purged found =
    let given = reply.Purged dropped files instances in
    let event : RunEvent = last_event lane place given (told_calls seen.history) in
    (did_own around after run lane place said request.Purge lists lists seen seen (did.Step half.Whole) (Some given) (Some given) event
    (record {
      own = own_event event refl;
      finds = tt;
      found = found;
      part_is = next;
      allowed = refl;
      did = refl;
      fits = All-nil _;
      ends = record { 0 = λ e. refl; 1 = λ e f. some_reply given f };
      replied = last_with (own_events place run) event ∙ unrefused;
    }) (record { made = refl; pins = refl; unpins = refl; doomed = refl; removed = refl; given = refl; placed = refl; gone = refl }) come (comes_along run event seen seen come refl refl (omega arith) refl refl refl) (λ uid. refl) (tells_itself seen) shows (omega arith) (mail_still seen.map seen.history) refl ((refl, (purged, refl)), refl)
    (refl, refl, runs, nothing lists seen)
    (ends_well request.Purge said event (Some given) (Some given) (did.Step half.Whole) seen seen refl runs runs refl (λ x. x) (purged_runs dropped files instances) (λ some. ap (λ (s : List Reply). slice_get (halves_of request.Purge) (length s)) unsaid) (first_reply request.Purge said (Some given) given unsaid refl))).so
