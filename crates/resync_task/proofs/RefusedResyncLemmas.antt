-- The events of a resync that are refused.
use Rattle.resync_task.proofs.Common.{◌≡◌, ◌≤◌, ◌<◌, ◌⊎◌, ℕ, Bool, true, false, List, [], length, Some, None, refl, sym, ◌∙◌, ap, subst, arith, inl, inr, if◌then◌else◌, NoFault, MapCount, Refusal, Reply, Lists, RunEvent, Run, own_events, Around, Seen, ShowsSeen, Leads, DidEvent, fall, StaysSo}
use Rattle.resync_task.proofs.Common.{ResyncAt, ToList, ToRead, HasRead, many_corrected, AreWrongCounts}
use Rattle.std.specs.Prelude.{nat_lt}
use Rattle.std.proofs.lemmas.Bool.{lt-ltb, le-ltb, cases_lt}
use Rattle.disk_model.specs.Disk.{told_calls}
use Rattle.mdbox_base.specs.Streams.{Rose}
use Rattle.mdbox_base.specs.declared.progress.Did.TheVariants as did
use Rattle.mdbox_base.specs.declared.replies.Refusal.TheVariants as refusal
use Rattle.mdbox_base.specs.declared.replies.Reply.TheVariants as reply
use Rattle.mdbox_base.specs.declared.requests.Request.TheVariants as request
use Rattle.mdbox_base.specs.declared.script.Half.TheVariants as half
use Rattle.model_meaning.specs.MapMeaning.{no_numbers}
use Rattle.list_machine.specs.Run.{EventPart, First, ReadsFile, Last}
use Rattle.journal.specs.Journal.{half_of}
use Rattle.journal.specs.Events.{has_memory, next_part, reads_octets}
use Rattle.journal.specs.Found.{has_looked}
use Rattle.journal.specs.Makes.{WouldMake}
use Rattle.task_steps.specs.Step.{HasComeTo, Stops}
use Rattle.task_steps.proofs.EventLaws.{CanRefuse, did_fall, did_forget, did_misread, did_stop, refusal_event, refuses, replied_so, stays_left}
use Rattle.task_steps.proofs.OneEventLemmas.{next_first}
use Rattle.resync_task.specs.Stages.{HasFilesLeft, IsAtResync, correcting_event}
use Rattle.resync_task.proofs.OwnResyncLemmas.{next_reads, next_corrects}
use Rattle.resync_task.proofs.ResyncEventLemmas.{wrong_set, are_resynced}

-- the part of its next event
abbrev part_at : ResyncAt → EventPart
part_at ToList = First
part_at (ToRead files read damaged) = if nat_lt read (length files) then ReadsFile else Last

next_at : (stage : ResyncAt) (around : Around) (run : Run) (place : ℕ) (said : List Reply) → IsAtResync stage run place said → HasFilesLeft stage → next_part around run request.Resync (own_events place run) ≡ Some (part_at stage)
next_at ToList around run place said h left = next_first around run request.Resync (own_events place run) h.0
next_at (ToRead files read damaged) around run place said h left = by_case (cases_lt read (length files))
  where
    by_case : (read < length files) ⊎ (length files ≤ read) → next_part around run request.Resync (own_events place run) ≡ Some (part_at (ToRead files read damaged))
    by_case (inl l) = next_reads around run files read damaged place h.0 l ∙ ap (λ (b : Bool). Some (if b then ReadsFile else Last)) (sym (lt-ltb read (length files) l))
    by_case (inr l) =
        let e : read ≡ length files = (let k = left in omega (arith, k, l)) in
        next_corrects around run files damaged place (subst (λ (n : ℕ). HasRead files n damaged place (own_events place run)) e h.0) ∙ ap (λ (b : Bool). Some (if b then ReadsFile else Last)) (sym (le-ltb read (length files) l))

memory_at : (stage : ResyncAt) → has_memory (part_at stage) request.Resync ≡ false
memory_at ToList = refl
memory_at (ToRead files read damaged) = by_test (nat_lt read (length files))
  where
    by_test : (b : Bool) → has_memory (if b then ReadsFile else Last) request.Resync ≡ false
    by_test true = refl
    by_test false = refl

told_none : (stage : ResyncAt) (run : Run) (place : ℕ) (said : List Reply) → IsAtResync stage run place said → said ≡ []
told_none ToList run place said h = h.1
told_none (ToRead files read damaged) run place said h = h.1

-- a refusal by which nothing is asked of what the event finds
abbrev Unlooked : Refusal → Type 0
Unlooked why = has_looked (Some why) ≡ false

can_refuse : (stage : ResyncAt) (around : Around) (run : Run) (place : ℕ) (said : List Reply) (why : Refusal) → Unlooked why → IsAtResync stage run place said → HasFilesLeft stage → CanRefuse around run place request.Resync (part_at stage) why (Some (reply.Refused why)) no_numbers
can_refuse stage around run place said why none h left = refuses around run place request.Resync (part_at stage) why no_numbers (λ lane calls. tt) (λ lane calls looked. absurd (fall (has_looked (Some why)) looked none)) (next_at stage around run place said h left) refl

-- ---- by lack of memory, a stopped store, or a fault

pub resync_unremembered : (around after : Around) (run : Run) (lane place : ℕ) (said : List Reply) (lists : Lists) (stage : ResyncAt) (old new : Seen) → HasComeTo run old → StaysSo old new → NoFault old.faults new.faults → ShowsSeen new lists → IsAtResync stage run place said → HasFilesLeft stage
    → old.stopped ≡ false → new.stopped ≡ false → Leads lists lists old new
    → DidEvent around after run lane place said request.Resync lists old new did.Quiet (Some (reply.Refused refusal.NoMemory))
resync_unremembered around after run lane place said lists stage old new come stays unfailed shows stood left ran runs leads =
    (did_forget around after run lane place said request.Resync (part_at stage) lists old new (Some (reply.Refused refusal.NoMemory)) no_numbers (can_refuse stage around run place said refusal.NoMemory refl stood left)
    (stays_left run lane place (part_at stage) refusal.NoMemory (Some (reply.Refused refusal.NoMemory)) lists old new come stays shows) ran runs leads unfailed (memory_at stage) (λ event. inl refl) (replied_so request.Resync said (reply.Refused refusal.NoMemory) (told_none stage run place said stood))).so

pub resync_stopped : (around after : Around) (run : Run) (lane place : ℕ) (said : List Reply) (lists : Lists) (stage : ResyncAt) (seen : Seen) → HasComeTo run seen → ShowsSeen seen lists → IsAtResync stage run place said → HasFilesLeft stage → seen.stopped ≡ true
    → DidEvent around after run lane place said request.Resync lists seen seen did.Quiet (Some (reply.Refused refusal.Stopped))
resync_stopped around after run lane place said lists stage seen come shows stood left stopped =
    (did_stop around after run lane place said request.Resync (part_at stage) lists seen (can_refuse stage around run place said refusal.Stopped refl stood left) come shows stopped).so

reads_at : (files : List ℕ) (read damaged : ℕ) → read < length files → reads_octets (part_at (ToRead files read damaged)) request.Resync ≡ true
reads_at files read damaged left = ap (λ (b : Bool). reads_octets (if b then ReadsFile else Last) request.Resync) (lt-ltb read (length files) left)

pub resync_faulted : (around after : Around) (run : Run) (lane place : ℕ) (said : List Reply) (lists : Lists) (old new : Seen) (files : List ℕ) (read damaged : ℕ) → HasComeTo run old → StaysSo old new → ShowsSeen new lists → IsAtResync (ToRead files read damaged) run place said
    → old.stopped ≡ false → new.stopped ≡ false → read < length files → Leads lists lists old new → Rose old.faults.reads new.faults.reads
    → DidEvent around after run lane place said request.Resync lists old new did.Quiet (Some (reply.Refused refusal.ReadFault))
resync_faulted around after run lane place said lists old new files read damaged come stays shows stood ran runs left leads rose =
    let stage : ResyncAt = ToRead files read damaged in
    (did_misread around after run lane place said request.Resync (part_at stage) lists old new (can_refuse stage around run place said refusal.ReadFault refl stood (omega (arith, left)))
    (stays_left run lane place (part_at stage) refusal.ReadFault (Some (reply.Refused refusal.ReadFault)) lists old new come stays shows) ran runs leads (reads_at files read damaged left) rose).so

-- ---- by an append that failed

pub resync_broken : (around after : Around) (run : Run) (lane place : ℕ) (said : List Reply) (lists : Lists) (old new : Seen) (files : List ℕ) (damaged : ℕ) (counts : List MapCount) → HasComeTo run old → StaysSo old new → ShowsSeen new lists → IsAtResync (ToRead files (length files) damaged) run place said
    → old.stopped ≡ false → new.stopped ≡ true → AreWrongCounts counts lists old → Stops lists lists old new → Rose old.faults.changes new.faults.changes
    → DidEvent around after run lane place said request.Resync lists old new (did.Broken half.Whole) (Some (reply.Refused refusal.Stopped))
resync_broken around after run lane place said lists old new files damaged counts come stays shows stood ran stopped wrong stops rose =
    (did_fall around after run lane place said request.Resync (part_at stage) lists old new (did.Broken half.Whole) no_numbers (can_refuse stage around run place said refusal.Stopped refl stood (omega arith))
    (stays_left run lane place (part_at stage) refusal.Stopped (Some (reply.Refused refusal.Stopped)) lists old new come stays shows) ran stopped rose (λ event. inl refl) tt
    (record { refused = refl; unanswered = refl; ran = ran; stopped = stopped }, half_is, (would, stops))).so
  where
    stage : ResyncAt
    stage = ToRead files (length files) damaged

    event : RunEvent
    event = correcting_event lane place (many_corrected counts old.map) damaged counts (told_calls new.history)

    last_is : Last ≡ part_at stage
    last_is = ap (λ (b : Bool). if b then ReadsFile else Last) (sym (le-ltb (length files) (length files) (omega arith)))

    half_is : half_of request.Resync (part_at stage) ≡ half.Whole
    half_is = ap (λ (p : EventPart). half_of request.Resync p) (sym last_is)

    would : WouldMake run request.Resync lists (refusal_event lane place (part_at stage) refusal.Stopped (Some (reply.Refused refusal.Stopped)) no_numbers (told_calls new.history))
    would = record {
      would = event;
      lane_is = refl;
      request_is = refl;
      part_is = last_is;
      did = λ found unrefused. let w = wrong_set run lane place (many_corrected counts old.map) damaged counts old new.history lists come ran stays.grows wrong in (counts, w.0, w.1, refl);
      answer = reply.Resynced (many_corrected counts old.map) damaged;
      left = lists;
      made = ((refl, (are_resynced run lane place files (length files) damaged counts old (told_calls new.history) come stood.0, refl)), refl);
    }
