-- The event of a fetch that removes the file which it has unpinned.
use Rattle.mail_fetch.proofs.Common.{◌≡◌, ◌≤◌, ℕ, true, false, List, [], ◌∷◌, Option, Some, None, refl, sym, ◌∙◌, subst, inl, inr, All-nil, Faults, Grows, History, told_calls, NoFault, FileNo, Uid, Reply, Lists, MapMeaning, IsSettledFor, Leaves, RemovesFile, Run, RunEvent, is_doomed, is_pinned}
use Rattle.mail_fetch.proofs.Common.{own_events, Around, next_part, IsReplyOf, StoreValue, Seen, unstepped, FetchSteps, CanRemove, IsTrueReply, seen_in}
use Rattle.mdbox_base.specs.Streams.{Rose}
use Rattle.mdbox_base.specs.declared.progress.Did.TheVariants as did
use Rattle.mdbox_base.specs.declared.replies.Refusal.TheVariants as refusal
use Rattle.mdbox_base.specs.declared.replies.Reply.TheVariants as reply
use Rattle.mdbox_base.specs.declared.requests.Request.TheVariants as request
use Rattle.model_kept.specs.Kept.{MailIsKept}
use Rattle.model_meaning.specs.MapMeaning.{no_numbers}
use Rattle.task_steps.specs.Tells.{TellsSame}
use Rattle.task_steps.proofs.EventLaws.{CanRefuse, did_fall, did_part, ends_well, one_reply, own_event, refuses, replied_so, some_reply, stays_left, stopped_answer}
use Rattle.task_steps.proofs.KeptStoreLemmas.{StaysSo}
use Rattle.task_steps.proofs.OneEventLemmas.{never_more}
use Rattle.task_steps.proofs.SeenLemmas.{no_guids}
use Rattle.mail_fetch.specs.declared.task.FetchStage.TheVariants as stage
use Rattle.mail_fetch.proofs.FetchPartLemmas.{last_with}
use Rattle.mail_fetch.proofs.LastPinLemmas.{both_true, leaves_is, next_removes, removes_by, removes_pins, some_pins}
use Rattle.mail_fetch.proofs.RemovalSeenLemmas.{removal_comes, removal_event, without}

-- the store is stopped, before or by the event
pub removal_halts : (around : Around) (run : Run) (place : ℕ) (name : List ℕ) (uid : Uid) → next_part around run (request.Fetch name uid) (own_events place run) ≡ Some RemovesFile → CanRefuse around run place (request.Fetch name uid) RemovesFile refusal.Stopped stopped_answer no_numbers
removal_halts around run place name uid next = refuses around run place (request.Fetch name uid) RemovesFile refusal.Stopped no_numbers (λ lane calls. tt) (λ lane calls. tt) next refl

-- ---- the clause

-- What a removal leaves on a disk: for the lists that it was settled for it is so still.
pub record LeavesSettled (m : MapMeaning) (before later : Option History) (began faults : Faults) : Type 0 where
  pub moments : (lists : Lists) → IsSettledFor lists before → Leaves lists lists before later
  pub rests : (lists : Lists) → IsSettledFor lists before → IsSettledFor lists later
  pub grows : Grows before later
  pub mail : MailIsKept m before later
  pub quiet : NoFault began faults

-- What it leaves where a change of the disk failed.
pub record LeavesFailed (m : MapMeaning) (before later : Option History) (began faults : Faults) : Type 0 where
  pub moments : (lists : Lists) → IsSettledFor lists before → Leaves lists lists before later
  pub grows : Grows before later
  pub mail : MailIsKept m before later
  pub reads : began.reads ≤ faults.reads
  pub changes : began.changes ≤ faults.changes
  pub rose : Rose began.changes faults.changes

pub true_reply_of : (name : List ℕ) (uid : Uid) (octets : List ℕ) (given : Reply) (said : List Reply) → said ≡ reply.Fetched octets ∷ [] → IsTrueReply octets given → IsReplyOf (request.Fetch name uid) said given
true_reply_of name uid octets given said e (inl is) = subst (λ (r : Reply). IsReplyOf (request.Fetch name uid) said r) (sym is) e
true_reply_of name uid octets given said e (inr is) = subst (λ (r : Reply). IsReplyOf (request.Fetch name uid) said r) (sym is) tt

pub not_stopped : (octets : List ℕ) (given : Reply) → IsTrueReply octets given → given ≡ reply.Refused refusal.Stopped → ⊥
not_stopped octets given (inl is) e = let k : reply.Fetched octets ≡ reply.Refused refusal.Stopped = sym is ∙ e in cc k
not_stopped octets given (inr is) e = let k : reply.Refused refusal.ReadFault ≡ reply.Refused refusal.Stopped = sym is ∙ e in let w : refusal.ReadFault ≡ refusal.Stopped = cc k in cc w

-- The file is removed, and the reply given.
pub removing_steps : {D : Type 0} → (around after : Around) (name : List ℕ) (uid : Uid) (file : FileNo) (given : Reply) (disk : D) (old : StoreValue D) (before later : Option History) (began faults : Faults) → old.stopped ≡ false → CanRemove file.0 old → file.0 ≤ old.drawn.file → LeavesSettled old.map before later began faults
    → FetchSteps around after name uid (stage.Removing file given) stage.First old (without file.0 disk old) before later began faults did.Quiet (Some given)
removing_steps around after name uid file given disk old before later began faults ran can drawn leaves = λ run lane place said lists come shows safe stood.
    let event : RunEvent = removal_event lane place file.0 given (told_calls later) in
    let q = request.Fetch name uid in
    let seen : Seen = seen_in old before began in
    let later_seen : Seen = seen_in (without file.0 disk old) later faults in
    let pins = removes_pins file.0 given (own_events place run) stood.0 in
    let goes = both_true (is_doomed run file.0) (is_pinned run file.0) (sym (leaves_is place run file.0 pins) ∙ stood.1) in (
      (did_part around after run lane place said q lists lists seen later_seen did.Quiet (Some given) None event
          (record {
            own = own_event event refl;
            finds = tt;
            found = tt;
            part_is = next_removes around name uid run place file.0 given stood.0 stood.1;
            allowed = refl;
            did = (file.0, some_pins file.0 (own_events place run) pins, goes.0, goes.1, refl);
            fits = All-nil _;
            ends = record { 0 = λ h. refl; 1 = λ e f. some_reply given f };
            replied = last_with (own_events place run) event ∙ removes_by file.0 given (own_events place run) stood.0;
          }) (removal_comes run lane place file.0 given disk old before later began faults come ran can.unpinned drawn leaves.grows) (no_guids run event refl) shows (record { grows = leaves.grows; mail = leaves.mail }) refl refl
          (refl, refl, record { stops = λ s. leaves.moments lists s.0; settled = λ s. leaves.rests lists s.0 })
          (ends_well q said event None (Some given) did.Quiet seen later_seen refl ran ran leaves.quiet (λ x. x) (λ e. not_stopped stood.2.0 given stood.2.2 (one_reply given (reply.Refused refusal.Stopped) e)) (λ some. absurd (unstepped some))
          (replied_so q said given (true_reply_of name uid stood.2.0 given said stood.2.1 stood.2.2)))).so,
      λ e. absurd (never_more _ e),
    )

abbrev pub stopped_at : {D : Type 0} → D → StoreValue D → StoreValue D
stopped_at disk store = record store { disk = disk; stopped = true }

-- A change of the disk failed, and the task stays where it was.
pub fail_steps : {D : Type 0} → (around after : Around) (name : List ℕ) (uid : Uid) (file : FileNo) (given : Reply) (disk : D) (old : StoreValue D) (before later : Option History) (began faults : Faults) → old.stopped ≡ false → LeavesFailed old.map before later began faults
    → FetchSteps around after name uid (stage.Removing file given) (stage.Removing file given) old (stopped_at disk old) before later began faults did.Failed (Some (reply.Refused refusal.Stopped))
fail_steps around after name uid file given disk old before later began faults ran leaves = λ run lane place said lists come shows safe stood.
    let seen : Seen = seen_in old before began in
    let later_seen : Seen = seen_in (stopped_at disk old) later faults in
    let stays : StaysSo seen later_seen = record { map = refl; drawn = refl; due = λ uid. refl; tells = tells_stopped disk old before later began faults; grows = leaves.grows; mail = leaves.mail; reads = leaves.reads; changes = leaves.changes } in (
      (did_fall around after run lane place said (request.Fetch name uid) RemovesFile lists seen later_seen did.Failed no_numbers (removal_halts around run place name uid (next_removes around name uid run place file.0 given stood.0 stood.1)) (stays_left run lane place RemovesFile refusal.Stopped stopped_answer lists seen later_seen come stays shows) ran refl leaves.rose
          (λ event. inl refl) tt (record { refused = refl; unanswered = refl; ran = ran; stopped = refl }, λ s. leaves.moments lists s.0)).so,
      λ e. absurd (never_more _ e),
    )
  where
    tells_stopped : {D : Type 0} → (disk : D) (old : StoreValue D) (before later : Option History) (began faults : Faults) → TellsSame (seen_in old before began) (seen_in (stopped_at disk old) later faults)
    tells_stopped disk old before later began faults = record {
      ran = λ runs. absurd (let k : true ≡ false = runs in cc k);
      pins = λ file. refl;
      doomed = λ file. refl;
      used = λ file. refl;
      barred = λ file. refl;
      gave = λ guid. refl;
      gone = λ instance. refl;
      files = λ file. refl;
      instances = λ instance. refl;
    }
