-- Events of a purge that are refused: a change of the disk failed, or a message can't be read.
use Rattle.purge_task.proofs.Common.{◌≡◌, ◌≤◌, ℕ, Bool, inl, true, false, List, [], Option, Some, refl, sym, subst, Faults, Grows, History, told_calls, Did, Refusal, Reply, MailIsKept, Lists, MapMeaning, no_numbers, IsSettledFor, Leaves, EventPart, First, Run, own_events, Around, next_part}
use Rattle.purge_task.proofs.Common.{FilesValue, StoreValue, DidEvent, HasComeTo, HasNotBegun, Seen, ShowsSeen, never_more, next_first, PurgeSteps, around_purging, seen_by_purge, PurgeValue, IsAtPurge, IsAtPurgeStage, PurgeStage}
use Rattle.mdbox_base.specs.Streams.{Rose}
use Rattle.mdbox_base.specs.declared.progress.Did.TheVariants as did
use Rattle.mdbox_base.specs.declared.replies.Refusal.TheVariants as refusal
use Rattle.mdbox_base.specs.declared.replies.Reply.TheVariants as reply
use Rattle.mdbox_base.specs.declared.requests.Request.TheVariants as request
use Rattle.journal.specs.Events.{reads_octets}
use Rattle.task_steps.proofs.EventLaws.{did_fall, did_forget, did_misread, Lasts, LeftBy, refusal_event, replied_so, same_changes, same_reads}
use Rattle.purge_task.specs.declared.task.PurgeStage.TheVariants as stage
use Rattle.purge_task.proofs.EventLemmas.{purge_refuses}
use Rattle.purge_task.proofs.RemovalLemmas.{LeavesSettled}
use Rattle.purge_task.proofs.SameSeenLemmas.{TellsNoLess, same_comes, with_state}
use Rattle.purge_task.proofs.StoppedLemmas.{next_some}

-- what a refused event leaves of a store that tells no less
refused_left : {D : Type 0} → (run : Run) (lane place : ℕ) (part : EventPart) (why : Refusal) (disk : D) (files : FilesValue) (stopped : Bool) (lists : Lists) (old : StoreValue D) (before later : Option History) (began faults : Faults) → HasComeTo run (seen_by_purge old before began) → old.stopped ≡ false → TellsNoLess old.files.files files.files
    → ShowsSeen (seen_by_purge old before began) lists → Lasts old.map before later → began.reads ≤ faults.reads → began.changes ≤ faults.changes
    → LeftBy run (refusal_event lane place part why (Some (reply.Refused why)) no_numbers (told_calls later)) lists (seen_by_purge old before began) (seen_by_purge (with_state disk files stopped old) later faults)
refused_left run lane place part why disk files stopped lists old before later began faults come ran tells shows lasts reads changes = record {
  comes = same_comes run (refusal_event lane place part why (Some (reply.Refused why)) no_numbers (told_calls later)) disk files stopped old before later began faults come ran tells (record { made = refl; pins = refl; unpins = refl; doomed = refl; removed = refl; given = refl; placed = refl; gone = refl }) refl refl refl (λ uid. refl) lasts.grows;
  shows = shows;
  lasts = lasts;
  reads = reads;
  changes = changes;
}

-- What a call leaves whose change of the disk failed.
pub record LeavesFailed (m : MapMeaning) (before later : Option History) (began faults : Faults) : Type 0 where
  pub moments : (lists : Lists) → IsSettledFor lists before → Leaves lists lists before later
  pub grows : Grows before later
  pub mail : MailIsKept m before later
  pub reads : began.reads ≤ faults.reads
  pub changes : began.changes ≤ faults.changes
  pub rose : Rose began.changes faults.changes

-- A change of the disk failed, and stopped the store, at whichever stage.
pub fail_steps : {D : Type 0} → (after : Around) (t next : PurgeValue) (disk : D) (files : FilesValue) (old : StoreValue D) (before later : Option History) (began faults : Faults) → next.did ≡ did.Failed → old.stopped ≡ false → TellsNoLess old.files.files files.files → LeavesFailed old.map before later began faults
    → PurgeSteps [] after t next old (with_state disk files true old) before later began faults (Some (reply.Refused refusal.Stopped))
fail_steps after t next disk files old before later began faults how ran tells leaves = λ run lane place said lists come shows stood.
    let around : Around = around_purging [] old in
    let new : StoreValue _ = with_state disk files true old in
    let part = next_some around t.stage t old run place said stood.0 in
    let seen : Seen = seen_by_purge old before began in
    let later_seen : Seen = seen_by_purge new later faults in (
      subst (λ (d : Did). DidEvent around after run lane place said request.Purge lists seen later_seen d (Some (reply.Refused refusal.Stopped))) (sym how)
          (did_fall around after run lane place said request.Purge part.0 lists seen later_seen did.Failed no_numbers (purge_refuses around run place part.0 refusal.Stopped part.1 refl refl)
          (refused_left run lane place part.0 refusal.Stopped disk files true lists old before later began faults come ran tells shows (record { grows = leaves.grows; mail = leaves.mail }) leaves.reads leaves.changes) ran refl leaves.rose (λ event. inl refl) tt
          (record { refused = refl; unanswered = refl; ran = ran; stopped = refl }, λ s. leaves.moments lists s.0)).so,
      λ e. absurd (never_more _ e),
    )

-- ---- a message that can't be read

-- What a call leaves whose read failed.
pub record LeavesUnread (m : MapMeaning) (before later : Option History) (began faults : Faults) : Type 0 where
  pub moments : (lists : Lists) → IsSettledFor lists before → Leaves lists lists before later
  pub rests : (lists : Lists) → IsSettledFor lists before → IsSettledFor lists later
  pub grows : Grows before later
  pub mail : MailIsKept m before later
  pub reads : began.reads ≤ faults.reads
  pub changes : began.changes ≤ faults.changes
  pub rose : Rose began.reads faults.reads

pub unread_steps : {D : Type 0} → (after : Around) (t next : PurgeValue) (disk : D) (files : FilesValue) (old : StoreValue D) (before later : Option History) (began faults : Faults) (part : EventPart) → reads_octets part request.Purge ≡ true → next.did ≡ did.Quiet → old.stopped ≡ false
    → ((run : Run) (place : ℕ) (said : List Reply) → HasComeTo run (seen_by_purge old before began) → IsAtPurge t old run place said → next_part (around_purging [] old) run request.Purge (own_events place run) ≡ Some part) → TellsNoLess old.files.files files.files → LeavesUnread old.map before later began faults
    → PurgeSteps [] after t next old (with_state disk files false old) before later began faults (Some (reply.Refused refusal.ReadFault))
unread_steps after t next disk files old before later began faults part octets how ran next_one tells leaves = λ run lane place said lists come shows stood.
    let around : Around = around_purging [] old in
    let new : StoreValue _ = with_state disk files false old in
    let seen : Seen = seen_by_purge old before began in
    let later_seen : Seen = seen_by_purge new later faults in (
      subst (λ (d : Did). DidEvent around after run lane place said request.Purge lists seen later_seen d (Some (reply.Refused refusal.ReadFault))) (sym how)
          (did_misread around after run lane place said request.Purge part lists seen later_seen (purge_refuses around run place part refusal.ReadFault (next_one run place said come stood.0) refl refl)
          (refused_left run lane place part refusal.ReadFault disk files false lists old before later began faults come ran tells shows (record { grows = leaves.grows; mail = leaves.mail }) leaves.reads leaves.changes) ran refl (record { stops = λ s. leaves.moments lists s.0; settled = λ s. leaves.rests lists s.0 }) octets leaves.rose).so,
      λ e. absurd (never_more _ e),
    )

-- ---- lack of memory

-- Only the first event takes memory.
pub memory_steps : {D : Type 0} → (after : Around) (t next : PurgeValue) (disk : D) (files : FilesValue) (old : StoreValue D) (before later : Option History) (began faults : Faults) → t.stage ≡ stage.First → next.did ≡ did.Quiet → old.stopped ≡ false → TellsNoLess old.files.files files.files → LeavesSettled old.map before later began faults
    → PurgeSteps [] after t next old (with_state disk files false old) before later began faults (Some (reply.Refused refusal.NoMemory))
memory_steps after t next disk files old before later began faults at how ran tells leaves = λ run lane place said lists come shows stood.
    let around : Around = around_purging [] old in
    let new : StoreValue _ = with_state disk files false old in
    let begins : HasNotBegun run place said = subst (λ (x : PurgeStage). IsAtPurgeStage x t old run place said) at stood.0 in
    let seen : Seen = seen_by_purge old before began in
    let later_seen : Seen = seen_by_purge new later faults in (
      subst (λ (d : Did). DidEvent around after run lane place said request.Purge lists seen later_seen d (Some (reply.Refused refusal.NoMemory))) (sym how)
          (did_forget around after run lane place said request.Purge First lists seen later_seen (Some (reply.Refused refusal.NoMemory)) no_numbers (purge_refuses around run place First refusal.NoMemory (next_first around run request.Purge (own_events place run) begins.0) refl refl)
          (refused_left run lane place First refusal.NoMemory disk files false lists old before later began faults come ran tells shows (record { grows = leaves.grows; mail = leaves.mail }) (same_reads began faults leaves.quiet) (same_changes began faults leaves.quiet)) ran refl
          (record { stops = λ s. leaves.moments lists s.0; settled = λ s. leaves.rests lists s.0 }) leaves.quiet refl (λ event. inl refl) (replied_so request.Purge said (reply.Refused refusal.NoMemory) begins.1)).so,
      λ e. absurd (never_more _ e),
    )
