-- What an event of a task keeps, by its kind.
use Rattle.lane_tasks.proofs.Common.{◌⊎◌, ◌&&◌, ◌≡◌, ℕ, suc, Bool, true, false, List, Option, Some, None, refl, sym, ◌∙◌, ap, subst, arith, inl, inr, History, Faults, Progress, MapMeaning, StoreValue, FetchStage, PurgeValue, SaveValue, FileNo, Uid, Refusal, Reply, Request, ended_by, MakeAnswers}
use Rattle.lane_tasks.proofs.Common.{MakeStage, SaveEffects, SaveStage, Task}
use Rattle.std.specs.Prelude.{◌==◌}
use Rattle.std.proofs.Common.{◌≤◌, zero}
use Rattle.disk_model.specs.Disk.{Grows, IsIdle, DiskState, told_calls}
use Rattle.disk_model.specs.declared.name.FileName.TheVariants as file
use Rattle.disk_model.specs.FaultCounts.{NoFault}
use Rattle.disk_model.proofs.IdleLemmas.{idle-begins}
use Rattle.mdbox_base.specs.declared.progress.Did.{Did}
use Rattle.mdbox_base.specs.declared.progress.Progress.TheVariants as progress
use Rattle.mdbox_base.specs.declared.replies.Refusal.TheVariants as refusal
use Rattle.mdbox_base.specs.declared.replies.Reply.TheVariants as reply
use Rattle.model_kept.specs.Kept.{MailIsKept}
use Rattle.model_kept.proofs.KeptLemmas.{kept_idle}
use Rattle.task_claims.specs.Leaving.{SyncsMail}
use Rattle.task_steps.proofs.UnmovedLemmas.{mail_still}
use Rattle.mail_ops.specs.OnlyLogs.{ChangesOnlyLogs}
use Rattle.mail_fetch.specs.Claims.{used_by}
use Rattle.mail_fetch.specs.Clause.{FetchesAlone, MakesOfDisk, OnlyReadsDisk, RemovesFromDisk}
use Rattle.mail_fetch.specs.Events.{FetchesNext, GoesOnWith, fetch_refusal, with_piece}
use Rattle.mail_fetch.specs.Parts.{pieces_left}
use Rattle.mail_fetch.specs.Task.{FetchValue}
use Rattle.mail_fetch.specs.declared.parts.StoredAt.{StoredAt}
use Rattle.mail_fetch.specs.declared.task.FetchStage.TheVariants as fetch_stage
use Rattle.mail_fetch.proofs.StageLemmas.{used_undoomed, used_runs}
use Rattle.mail_save.specs.Task.{EndsSave, FaultsAt, Saves}
use Rattle.attach_detach.specs.declared.message.Prepared.{Prepared}
use Rattle.list_machine.specs.Machine.{is_step}
use Rattle.mdbox_base.specs.Streams.{Rose}
use Rattle.storage_files.specs.Files.{pins_in}
use Rattle.mdbox_base.specs.declared.requests.Request.TheVariants as request
use Rattle.mail_ops.specs.Copy.{CopyAnswers}
use Rattle.mail_ops.specs.Deleting.{DeleteAnswers}
use Rattle.mail_ops.specs.Event.{refusal_told}
use Rattle.mail_ops.specs.Expunging.{ExpungeAnswers}
use Rattle.mail_ops.specs.Flagging.{flag_refusal}
use Rattle.mail_ops.specs.Wording.{WordsAnswers}
use Rattle.mail_ops.specs.Making.{IsLogNotMade}
use Rattle.mail_ops.specs.Moving.{MoveAnswers}
use Rattle.mail_ops.specs.Renaming.{RenameAnswers}
use Rattle.mail_ops.specs.Requests.{AppendsNothing, Replies}
use Rattle.mail_ops.specs.declared.copy.CopyStage.{CopyStage}
use Rattle.mail_ops.specs.declared.copy.CopyStage.TheVariants as copy_stage
use Rattle.mail_ops.specs.declared.deleting.DeleteStage.{DeleteStage}
use Rattle.mail_ops.specs.declared.deleting.DeleteStage.TheVariants as delete_stage
use Rattle.mail_ops.specs.declared.event.NotDone.{NotDone}
use Rattle.mail_ops.specs.declared.event.NotDone.TheVariants as not_done
use Rattle.mail_ops.specs.declared.expunging.ExpungeStage.{ExpungeStage}
use Rattle.mail_ops.specs.declared.expunging.ExpungeStage.TheVariants as expunge_stage
use Rattle.mail_ops.specs.declared.making.MakeStage.TheVariants as make_stage
use Rattle.mail_ops.specs.declared.moving.MoveStage.{MoveStage}
use Rattle.mail_ops.specs.declared.moving.MoveStage.TheVariants as move_stage
use Rattle.mail_save.specs.declared.task.SaveStage.TheVariants as save_stage
use Rattle.resync_task.specs.Clause.{ResyncKeeps}
use Rattle.resync_task.specs.Correcting.{AreExact}
use Rattle.resync_task.specs.Stages.{ResyncAt, ToList, ToRead}
use Rattle.resync_task.specs.Task.{ResyncValue, ResyncsOn}
use Rattle.lane_tasks.specs.Clause.{DoomsNone, DoomsNothing, FetchesSo, IsAtStart, PurgesSo, RemovesNothing, StaysOfRequest, TaskKeeps, TellsStore, OnlyReads, WritesTask, progress_by}
use Rattle.lane_tasks.specs.declared.task.Task.TheVariants as task
use Rattle.lane_tasks.proofs.StepLemmas.{ran_before, rest_files, undoomed_by, undoomed_rest}

-- ---- the disk

grows_kept : (m : MapMeaning) (before after : Option History) → MailIsKept m before after → Grows before after
grows_kept m None after kept = subst (λ (h : Option History). told_calls None ≤ told_calls h) (sym kept) (omega arith)
grows_kept m (Some h) None kept = absurd kept
grows_kept m (Some h) (Some g) kept = kept.later

syncs_idle : (before after : Option History) → IsIdle before after → SyncsMail before after
syncs_idle None after idle = idle.same
syncs_idle (Some h) None idle = absurd idle.same
syncs_idle (Some h) (Some g) idle = (λ number. inl (ap (λ (disk : DiskState). disk (file.Mail number)) idle.same), λ hash id. inl (ap (λ (disk : DiskState). disk (file.Inst hash id)) idle.same))

-- ---- a store in which nothing happened

idle_disk : {D : Type 0} → (history : D → Option History) (old new : StoreValue D) → new.disk ≡ old.disk → IsIdle (history old.disk) (history new.disk)
idle_disk history old new same = subst (λ (d : _). IsIdle (history old.disk) (history d)) (sym same) (idle-begins (history old.disk))

idle_same : {D : Type 0} → (history : D → Option History) (old new : StoreValue D) → new ≡ old → IsIdle (history old.disk) (history new.disk)
idle_same history old new same = idle_disk history old new (ap (λ (s : StoreValue _). s.disk) same)

told_so : (a : Progress) (given : Reply) → ended_by a ≡ Some given → a ≡ progress.Done given
told_so progress.More given e = absurd (let n : None ≡ Some given = e in cc n)
told_so (progress.Done other) given e = (let n : Some other ≡ Some given = e in let z : other ≡ given = cc n in ap progress.Done z)

abbrev Same : {D : Type 0} → (D → Option History) → (D → Faults) → Task → Task → StoreValue D → StoreValue D → Option Reply → Type 0
Same history faults t next old new ended = TaskKeeps t next old new (history old.disk) (history new.disk) (faults old.disk) (faults new.disk) ended

pub keeps_still : {D : Type 0} → (history : D → Option History) (faults : D → Faults) (t next : Task) (old new : StoreValue D) (ended : Option Reply) → StaysOfRequest t next → (DoomsNone t → DoomsNone next) → (new.stopped ≡ false → SyncsMail (history old.disk) (history old.disk) → WritesTask t next old (history old.disk) (history old.disk)) → TellsStore t next old new (history old.disk) (history old.disk) ended → FetchesSo t next old new (history old.disk) (history old.disk) (faults old.disk) (faults old.disk) ended → new ≡ old → Same history faults t next old new ended
keeps_still history faults t next old new ended kind dooms writes tells fetches same =
    subst (λ (d : _). TaskKeeps t next old new (history old.disk) (history d) (faults old.disk) (faults d) ended) (sym (ap (λ (s : StoreValue _). s.disk) same))
    (record {
      request = kind;
      grows = omega arith;
      mail = λ m kept. mail_still m (history old.disk);
      reads = omega arith;
      changes = omega arith;
      unfailed = λ runs. refl;
      fell = λ ran stops. absurd (let k : true ≡ false = sym stops ∙ (ap (λ (s : StoreValue _). s.stopped) same ∙ ran) in cc k);
      unread = λ none. refl;
      calm = λ answers told. refl;
      tells = tells;
      undoomed = undoomed_rest t next old new dooms (λ stopped. ap (λ (s : StoreValue _). s.stopped) same ∙ stopped) (ap (λ (s : StoreValue _). s.files) same);
      idle = λ reads none. (idle-begins (history old.disk), refl, ap (λ (s : StoreValue _). s.stopped) same);
      still = λ stopped. (idle-begins (history old.disk), refl);
      same = λ back. idle-begins (history old.disk);
      refused = λ why begun e step. idle-begins (history old.disk);
      left = λ runs. writes runs (syncs_idle (history old.disk) (history old.disk) (idle-begins (history old.disk)));
      fetches = fetches;
    })

-- ---- of a task that changes logs at the most

pub progress_back : (answer : Progress) → progress_by (ended_by answer) ≡ answer
progress_back progress.More = refl
progress_back (progress.Done given) = refl

abbrev IsStoppedReply : Progress → Type 0
IsStoppedReply answer = answer ≡ progress.Done (reply.Refused refusal.Stopped)

pub keeps_by : {D Stage : Type 0} → (history : D → Option History) (faults : D → Faults) (t next : Task) (Rest : Type 0) (now then : Stage) (old new : StoreValue D) (answer : Progress) → StaysOfRequest t next → (DoomsNone t → DoomsNone next) → new.files ≡ old.files → ChangesOnlyLogs Rest now then answer old new (history old.disk) (history new.disk) (faults old.disk) (faults new.disk)
    → (OnlyReads t → new ≡ old) → ((why : Refusal) → IsAtStart t → old.stopped ≡ false → answer ≡ progress.Done (reply.Refused why) → is_step why ≡ true → new ≡ old)
    → (SyncsMail (history old.disk) (history new.disk) → WritesTask t next old (history old.disk) (history new.disk)) → TellsStore t next old new (history old.disk) (history new.disk) (ended_by answer) → FetchesSo t next old new (history old.disk) (history new.disk) (faults old.disk) (faults new.disk) (ended_by answer) → Same history faults t next old new (ended_by answer)
keeps_by history faults t next Rest now then old new answer kind dooms files k reads refused writes tells fetches = record {
  request = kind;
  grows = grows_kept old.map (history old.disk) (history new.disk) (k.mail.stays old.map);
  mail = λ m kept. k.mail.stays m;
  reads = (let same = unread old.stopped refl in omega (arith, same));
  changes = more old.stopped refl;
  unfailed = λ runs. ap (λ (f : Faults). f.changes) (k.unfailed (λ e. absurd (let z : true ≡ false = sym (k.stopped.0 e) ∙ runs in cc z)));
  fell = λ ran stops. ((k.fault ran).rose (k.stopped.1 stops), (k.fault ran).reads);
  unread = λ none. unread old.stopped refl;
  calm = λ answers told. unread old.stopped refl;
  tells = tells;
  undoomed = undoomed_rest t next old new dooms (λ was. ap (λ (s : StoreValue _). s.stopped) (still was) ∙ was) files;
  idle = λ r none. (
    idle_same history old new (reads r),
    ap (λ (s : StoreValue _). (faults s.disk).changes) (reads r),
    ap (λ (s : StoreValue _). s.stopped) (reads r),
  );
  still = λ stopped. (idle_same history old new (still stopped), ap (λ (s : StoreValue _). (faults s.disk).changes) (still stopped));
  same = idle_disk history old new;
  refused = λ why begun e step. idle_same history old new (by_stop why begun (told_so answer (reply.Refused why) e) step old.stopped refl);
  left = λ runs. writes (k.mail.left (runs ∙ sym (ran_before old.stopped new.stopped (λ was. ap (λ (s : StoreValue _). s.stopped) (still was) ∙ was) runs)));
  fetches = fetches;
}
  where
    still : old.stopped ≡ true → new ≡ old
    still was = (k.still was).0

    by_stop : (why : Refusal) → IsAtStart t → answer ≡ progress.Done (reply.Refused why) → is_step why ≡ true → (b : Bool) → old.stopped ≡ b → new ≡ old
    by_stop why begun e step true was = still was
    by_stop why begun e step false ran = refused why begun ran e step

    unread : (b : Bool) → old.stopped ≡ b → (faults new.disk).reads ≡ (faults old.disk).reads
    unread true was = ap (λ (s : StoreValue _). (faults s.disk).reads) (still was)
    unread false ran = (k.fault ran).reads

    more : (b : Bool) → old.stopped ≡ b → (faults old.disk).changes ≤ (faults new.disk).changes
    more true was = let same = ap (λ (s : StoreValue _). (faults s.disk).changes) (still was) in omega (arith, same)
    more false ran = (k.fault ran).changes

-- ---- of a fetch

first_stopped : {D : Type 0} → (next : FetchStage) (old new : StoreValue D) → new ≡ record (used_by fetch_stage.First next old) { disk = new.disk } → new.stopped ≡ old.stopped
first_stopped fetch_stage.First old new same = ap (λ (s : StoreValue _). s.stopped) same
first_stopped (fetch_stage.Reading region) old new same = ap (λ (s : StoreValue _). s.stopped) same
first_stopped (fetch_stage.Unpinning from given) old new same = ap (λ (s : StoreValue _). s.stopped) same
first_stopped (fetch_stage.Removing file given) old new same = ap (λ (s : StoreValue _). s.stopped) same

unpinned_stopped : {D : Type 0} → (from : StoredAt) (given : Reply) (next : FetchStage) (old new : StoreValue D) → new ≡ record (used_by (fetch_stage.Unpinning from given) next old) { disk = new.disk } → new.stopped ≡ old.stopped
unpinned_stopped from given fetch_stage.First old new same = ap (λ (s : StoreValue _). s.stopped) same
unpinned_stopped from given (fetch_stage.Reading region) old new same = ap (λ (s : StoreValue _). s.stopped) same
unpinned_stopped from given (fetch_stage.Unpinning other reply) old new same = ap (λ (s : StoreValue _). s.stopped) same
unpinned_stopped from given (fetch_stage.Removing file reply) old new same = ap (λ (s : StoreValue _). s.stopped) same

-- what an event keeps of the disk that comes from one stage to another
record KeepsFetching {D : Type 0} (now : FetchStage) (old new : StoreValue D) (before after : Option History) (began faults : Faults) : Type 0 where
  grows : Grows before after
  mail : (m : MapMeaning) → ((RemovesNothing now → ⊥) → m ≡ old.map) → MailIsKept m before after
  reads : began.reads ≤ faults.reads
  changes : began.changes ≤ faults.changes
  unfailed : new.stopped ≡ false → faults.changes ≡ began.changes
  fell : old.stopped ≡ false → new.stopped ≡ true → Rose began.changes faults.changes × (faults.reads ≡ began.reads)
  idle : RemovesNothing now → IsIdle before after × (faults.changes ≡ began.changes) × (new.stopped ≡ old.stopped)
  still : old.stopped ≡ true → IsIdle before after × (faults.changes ≡ began.changes)

-- one that only reads
only_reads : {D : Type 0} → (now next : FetchStage) (old new : StoreValue D) (before after : Option History) (began faults : Faults) → OnlyReadsDisk next before after began faults → (RemovesNothing now → new.stopped ≡ old.stopped) → (old.stopped ≡ false → new.stopped ≡ old.stopped) → KeepsFetching now old new before after began faults
only_reads now next old new before after began faults o same ran_same = record {
  grows = grows_kept old.map before after (kept_idle old.map before after o.idle);
  mail = λ m kept. kept_idle m before after o.idle;
  reads = o.fault.reads;
  changes = (let k = o.fault.changes in omega (arith, k));
  unfailed = λ runs. o.fault.changes;
  fell = λ ran stops. absurd (let k : true ≡ false = sym stops ∙ (ran_same ran ∙ ran) in cc k);
  idle = λ none. (o.idle, o.fault.changes, same none);
  still = λ stopped. (o.idle, o.fault.changes);
}

removes : {D : Type 0} → (file : FileNo) (given : Reply) (old new : StoreValue D) (before after : Option History) (began faults : Faults) → old.stopped ≡ false → RemovesFromDisk file.0 old new before after began faults → KeepsFetching (fetch_stage.Removing file given) old new before after began faults
removes file given old new before after began faults ran r = record {
  grows = r.grows;
  mail = λ m kept. subst (λ (n : MapMeaning). MailIsKept n before after) (sym (kept (λ none. none))) r.mail;
  reads = (let k = r.fault.reads in omega (arith, k));
  changes = r.fault.changes;
  unfailed = λ runs. ap (λ (f : Faults). f.changes) (r.unfailed runs);
  fell = λ was stops. (r.fault.rose stops, r.fault.reads);
  idle = λ none. absurd none;
  still = λ was. absurd (let k : true ≡ false = sym was ∙ ran in cc k);
}

fetch_kept : {D : Type 0} → (now next : FetchStage) (old new : StoreValue D) (before after : Option History) (began faults : Faults) → new ≡ record (used_by now next old) { disk = new.disk } → MakesOfDisk now next old new before after began faults → KeepsFetching now old new before after began faults
fetch_kept fetch_stage.First next old new before after began faults same made = only_reads fetch_stage.First next old new before after began faults made (λ none. first_stopped next old new same) (λ ran. first_stopped next old new same)
fetch_kept (fetch_stage.Reading region) next old new before after began faults same made =
    only_reads (fetch_stage.Reading region) next old new before after began faults made (λ none. ap (λ (s : StoreValue _). s.stopped) same) (λ ran. ap (λ (s : StoreValue _). s.stopped) same)
fetch_kept (fetch_stage.Unpinning from given) next old new before after began faults same made =
    only_reads (fetch_stage.Unpinning from given) next old new before after began faults made (λ none. unpinned_stopped from given next old new same) (λ ran. unpinned_stopped from given next old new same)
fetch_kept (fetch_stage.Removing file given) next old new before after began faults same made = by_run old.stopped refl
  where
    by_run : (b : Bool) → old.stopped ≡ b → KeepsFetching (fetch_stage.Removing file given) old new before after began faults
    by_run true was = only_reads (fetch_stage.Removing file given) next old new before after began faults (made.0 was) (λ none. absurd none) (λ ran. absurd (let k : true ≡ false = sym was ∙ ran in cc k))
    by_run false ran = removes file given old new before after began faults ran (made.1 ran)

-- where no file is doomed, none is to be removed
fetch_removes : {D : Type 0} → (name : List ℕ) (uid : ℕ) (now next : FetchStage) (answer : Progress) (store : StoreValue D) (history : Option History) (began faults : Faults) → FetchesNext name uid now next answer store history began faults → RemovesNothing now → (store.stopped ≡ false → DoomsNothing store) → RemovesNothing next
fetch_removes name uid fetch_stage.First next answer store history began faults said none nothing = by_refusal (fetch_refusal name uid store) refl
  where
    by_refusal : (o : Option Refusal) → fetch_refusal name uid store ≡ o → RemovesNothing next
    by_refusal (Some why) e = subst RemovesNothing (sym (said.refused why e).1) tt
    by_refusal None e = elim (said.begun e) [ inl b ↦ subst RemovesNothing (sym b.1.2) tt | inr b ↦ subst RemovesNothing (sym b.3) tt ]
fetch_removes name uid (fetch_stage.Reading region) next answer store history began faults said none nothing = by_run store.stopped refl
  where
    by_left : (piece : List ℕ) → GoesOnWith (with_piece region piece) next → (n : ℕ) → pieces_left (with_piece region piece).left ≡ n → RemovesNothing next
    by_left piece on zero e = subst RemovesNothing (sym (on.last e).1) tt
    by_left piece on (suc n) e = subst RemovesNothing (sym (on.more (omega (arith, e)))) tt

    by_run : (b : Bool) → store.stopped ≡ b → RemovesNothing next
    by_run true was = subst RemovesNothing (sym (said.0 was).1) tt
    by_run false ran = elim (said.1 ran).1 [ inl p ↦ by_left p.0 p.2 (pieces_left (with_piece region p.0).left) refl | inr p ↦ subst RemovesNothing (sym p.1) tt ]
fetch_removes name uid (fetch_stage.Unpinning from given) next answer store history began faults said none nothing = by_run store.stopped refl
  where
    by_run : (b : Bool) → store.stopped ≡ b → RemovesNothing next
    by_run true was = subst RemovesNothing (sym (said.0 was).1) tt
    by_run false ran = subst RemovesNothing (sym ((said.1 ran).other (ap (λ (b : Bool). b && (pins_in from.file.0 store.files.files == 1)) (nothing ran from.file.0))).1) tt
fetch_removes name uid (fetch_stage.Removing file given) next answer store history began faults said none nothing = absurd none

pub keeps_fetching : {D : Type 0} → (history : D → Option History) (faults : D → Faults) (t next : FetchValue) (old new : StoreValue D) (answer : Progress) → (next.name ≡ t.name) × (next.uid ≡ t.uid) → FetchesAlone t.name t.uid.0 t.stage next.stage next.did answer old new (history old.disk) (history new.disk) (faults old.disk) (faults new.disk)
    → Same history faults (task.Fetch t) (task.Fetch next) old new (ended_by answer)
keeps_fetching history faults t next old new answer request alone =
    let k = fetch_kept t.stage next.stage old new (history old.disk) (history new.disk) (faults old.disk) (faults new.disk) alone.same alone.disk in
    record {
      request = request;
      grows = k.grows;
      mail = λ m kept. k.mail m kept;
      reads = k.reads;
      changes = k.changes;
      unfailed = k.unfailed;
      fell = k.fell;
      unread = λ none. absurd none;
      calm = λ answers. absurd answers;
      tells = tt;
      undoomed = λ none nothing. (
        fetch_removes t.name t.uid.0 t.stage next.stage answer old (history old.disk) (faults old.disk) (faults new.disk) alone.replies none nothing,
        λ runs file. used_undoomed t.stage next.stage old new file alone.same (nothing (used_runs t.stage next.stage old new alone.same runs) file),
      );
      idle = λ reads none. k.idle none;
      still = k.still;
      same = idle_disk history old new;
      refused = λ why begun e step. (k.idle (subst RemovesNothing (sym begun) tt)).0;
      left = λ runs none. syncs_idle (history old.disk) (history new.disk) (k.idle none).0;
      fetches = subst (λ (a : Progress). FetchesAlone t.name t.uid.0 t.stage next.stage next.did a old new (history old.disk) (history new.disk) (faults old.disk) (faults new.disk)) (sym (progress_back answer)) alone;
    }

-- ---- of a delivery

-- the counts that rose
record RoseAs (answer : Progress) (began now : Faults) : Type 0 where
  reads : began.reads ≤ now.reads
  changes : began.changes ≤ now.changes
  unfailed : (IsStoppedReply answer → ⊥) → now.changes ≡ began.changes
  calm : (answer ≡ progress.Done (reply.Refused refusal.ReadFault) → ⊥) → now.reads ≡ began.reads

rose_none : (answer : Progress) (began now : Faults) → NoFault began now → RoseAs answer began now
rose_none answer began now same =
    let reads = ap (λ (f : Faults). f.reads) same in
    let changes = ap (λ (f : Faults). f.changes) same in
    record { reads = omega (arith, reads); changes = omega (arith, changes); unfailed = λ no. changes; calm = λ no. reads }

rose_as : (answer : Progress) (began now : Faults) → FaultsAt answer began now → RoseAs answer began now
rose_as (progress.Done (reply.Refused refusal.Stopped)) began now f = let same = f.reads in record { reads = omega (arith, same); changes = f.changes; unfailed = λ no. absurd (no refl); calm = λ no. f.reads }
rose_as (progress.Done (reply.Refused refusal.ReadFault)) began now f = let same = f.changes in record { reads = f.reads; changes = omega (arith, same); unfailed = λ no. f.changes; calm = λ no. absurd (no refl) }
rose_as answer began now f = rose_none answer began now f

pub keeps_saving : {D : Type 0} → (history : D → Option History) (faults : D → Faults) (t next : SaveValue) (old new : StoreValue D) (answer : Progress) → (next.name ≡ t.name) × (next.time ≡ t.time) × (next.size ≡ t.size) → EndsSave answer old new
    → (old.stopped ≡ false → Saves t.stage next.stage t.name t.time t.size answer next.did old new (history old.disk) (history new.disk) (faults old.disk) (faults new.disk)) → Same history faults (task.Deliver t) (task.Deliver next) old new (ended_by answer)
keeps_saving history faults t next old new answer request ends saves = by_run old.stopped refl
  where
    saving_refused : (prepared : Prepared) (now later : SaveStage) (a : Progress) (why : Refusal) → now ≡ save_stage.First prepared → ended_by a ≡ Some (reply.Refused why) → SaveEffects now later t.name t.time t.size a old new → new ≡ old
    saving_refused prepared now later a why is e effects = first_refused later a e (subst (λ (k : SaveStage). SaveEffects k later t.name t.time t.size a old new) is effects)
      where
        first_refused : (later : SaveStage) (a : Progress) → ended_by a ≡ Some (reply.Refused why) → SaveEffects (save_stage.First prepared) later t.name t.time t.size a old new → new ≡ old
        first_refused save_stage.Ended (progress.Done (reply.Refused other)) e s = s
        first_refused later progress.More e s = absurd (let n : None ≡ Some (reply.Refused why) = e in cc n)
        first_refused later a e s = absurd s

    ran : old.stopped ≡ false → Saves t.stage next.stage t.name t.time t.size answer next.did old new (history old.disk) (history new.disk) (faults old.disk) (faults new.disk) → Same history faults (task.Deliver t) (task.Deliver next) old new (ended_by answer)
    ran r s =
        let f = rose_as answer (faults old.disk) (faults new.disk) s.faults in
        record {
          request = request;
          grows = s.grows;
          mail = λ m is. subst (λ (n : MapMeaning). MailIsKept n (history old.disk) (history new.disk)) (sym is) s.stays;
          reads = f.reads;
          changes = f.changes;
          unfailed = λ runs. f.unfailed (λ e. absurd (let k : true ≡ false = sym (s.stopped.0 e) ∙ runs in cc k));
          fell = λ ran stops. let f = subst (λ (a : Progress). FaultsAt a (faults old.disk) (faults new.disk)) (s.stopped.1 stops) s.faults in (f.rose tt, f.reads);
          unread = λ none. absurd none;
          calm = λ answers told. f.calm (λ e. told (ap ended_by e));
          tells = λ runs. (faults old.disk, faults new.disk, subst (λ (a : Progress). Saves t.stage next.stage t.name t.time t.size a next.did old new (history old.disk) (history new.disk) (faults old.disk) (faults new.disk)) (sym (progress_back answer)) s);
          undoomed = undoomed_by (task.Deliver t) (task.Deliver next) old new (λ none. none) (λ runs. r) ends.doomed;
          idle = λ reads none. absurd reads;
          still = λ was. absurd (let k : true ≡ false = sym was ∙ r in cc k);
          same = idle_disk history old new;
          refused = λ why begun e step. idle_same history old new (saving_refused begun.0 t.stage next.stage answer why begun.1 e s.effects);
          left = λ runs. s.mail runs;
          fetches = tt;
        }

    by_run : (b : Bool) → old.stopped ≡ b → Same history faults (task.Deliver t) (task.Deliver next) old new (ended_by answer)
    by_run true was = keeps_still history faults (task.Deliver t) (task.Deliver next) old new (ended_by answer) request (λ none. none) (λ runs synced. absurd (let k : false ≡ true = sym runs ∙ (ap (λ (s : StoreValue _). s.stopped) (ends.still was) ∙ was) in cc k)) (λ runs. absurd (let k : true ≡ false = sym was ∙ runs in cc k)) tt (ends.still was)
    by_run false r = ran r (saves r)

-- ---- of a resync

-- a first event that is refused changes nothing
resync_refused : {D : Type 0} → (now next : ResyncAt) (how : Did) (old new : StoreValue D) (before after : Option History) (began then : Faults) (answer : Progress) (why : Refusal) → now ≡ ToList → answer ≡ progress.Done (reply.Refused why)
    → ResyncsOn now next answer how old new before after began then → new ≡ old
resync_refused now next how old new before after began then answer why is e said =
    by_next next why (subst (λ (k : ResyncAt). ResyncsOn k next (progress.Done (reply.Refused why)) how old new before after began then) is (subst (λ (a : Progress). ResyncsOn now next a how old new before after began then) e said))
  where
    by_next : (next : ResyncAt) (why : Refusal) → ResyncsOn ToList next (progress.Done (reply.Refused why)) how old new before after began then → new ≡ old
    by_next ToList refusal.NoMemory s = s.1
    by_next ToList why s = absurd s
    by_next (ToRead files read damaged) why s = absurd s

pub keeps_resyncing : {D : Type 0} → (history : D → Option History) (faults : D → Faults) (t next : ResyncValue) (old new : StoreValue D) (answer : Progress)
    → (old.stopped ≡ false → ResyncsOn t.stage next.stage answer next.did old new (history old.disk) (history new.disk) (faults old.disk) (faults new.disk)) → ((corrected damaged : ℕ) → answer ≡ progress.Done (reply.Resynced corrected damaged) → AreExact new)
    → ResyncKeeps t.stage next.stage answer old new (history old.disk) (history new.disk) (faults old.disk) (faults new.disk)
    → Same history faults (task.Resync t) (task.Resync next) old new (ended_by answer)
keeps_resyncing history faults t next old new answer on exact k = record {
  request = tt;
  grows = k.grows;
  mail = λ m kept. k.mail.stays m;
  reads = k.fault.reads;
  changes = k.fault.changes;
  unfailed = k.fault.steady;
  fell = λ ran stops. k.fault.change ran (k.stopped.1 stops);
  unread = λ none. absurd none;
  calm = λ answers told. by_calm (λ e. told (ap ended_by e)) old.stopped refl;
  tells = (
    λ ran. (faults old.disk, faults new.disk, subst (λ (a : Progress). ResyncsOn t.stage next.stage a next.did old new (history old.disk) (history new.disk) (faults old.disk) (faults new.disk)) (sym (progress_back answer)) (on ran)),
    λ corrected damaged e. exact corrected damaged (told_so answer (reply.Resynced corrected damaged) e),
  );
  undoomed = undoomed_rest (task.Resync t) (task.Resync next) old new (λ none. none) (λ was. ap (λ (s : StoreValue _). s.stopped) (still was) ∙ was) (rest_files old new k.rest);
  idle = λ reads none. absurd reads;
  still = λ stopped. (idle_same history old new (still stopped), ap (λ (s : StoreValue _). (faults s.disk).changes) (still stopped));
  same = idle_disk history old new;
  refused = λ why begun e step. idle_same history old new (by_stop why begun (told_so answer (reply.Refused why) e) old.stopped refl);
  left = λ runs. k.mail.left (runs ∙ sym (ran_before old.stopped new.stopped (λ was. ap (λ (s : StoreValue _). s.stopped) (still was) ∙ was) runs));
  fetches = tt;
}
  where
    still : old.stopped ≡ true → new ≡ old
    still was = (k.still was).0

    by_calm : (answer ≡ progress.Done (reply.Refused refusal.ReadFault) → ⊥) → (b : Bool) → old.stopped ≡ b → (faults new.disk).reads ≡ (faults old.disk).reads
    by_calm unread true was = ap (λ (s : StoreValue _). (faults s.disk).reads) (still was)
    by_calm unread false ran = by_end new.stopped refl
      where
        by_end : (b : Bool) → new.stopped ≡ b → (faults new.disk).reads ≡ (faults old.disk).reads
        by_end true stops = (k.fault.change ran (k.stopped.1 stops)).1
        by_end false runs = ap (λ (f : Faults). f.reads) (k.fault.unfailed unread (λ e. absurd (let z : true ≡ false = sym (k.stopped.0 e) ∙ runs in cc z)))

    by_stop : (why : Refusal) → t.stage ≡ ToList → answer ≡ progress.Done (reply.Refused why) → (b : Bool) → old.stopped ≡ b → new ≡ old
    by_stop why begun e true was = still was
    by_stop why begun e false ran = resync_refused t.stage next.stage next.did old new (history old.disk) (history new.disk) (faults old.disk) (faults new.disk) answer why begun e (on ran)

-- ---- of a purge

pub keeps_purging : {D : Type 0} → (history : D → Option History) (faults : D → Faults) (t next : PurgeValue) (old new : StoreValue D) (ended : Option Reply) → Grows (history old.disk) (history new.disk) → MailIsKept old.map (history old.disk) (history new.disk) → (faults old.disk).reads ≤ (faults new.disk).reads → ((ended ≡ Some (reply.Refused refusal.ReadFault) → ⊥) → (faults new.disk).reads ≡ (faults old.disk).reads) → (faults old.disk).changes ≤ (faults new.disk).changes
    → (new.stopped ≡ false → (faults new.disk).changes ≡ (faults old.disk).changes) → (old.stopped ≡ false → new.stopped ≡ true → Rose (faults old.disk).changes (faults new.disk).changes × ((faults new.disk).reads ≡ (faults old.disk).reads)) → (old.stopped ≡ true → new ≡ old) → PurgesSo t next old new (history old.disk) (history new.disk) ended
    → Same history faults (task.Purge t) (task.Purge next) old new ended
keeps_purging history faults t next old new ended grows mail reads calm changes unfailed fell still tells = record {
  request = tt;
  grows = grows;
  mail = λ m is. subst (λ (n : MapMeaning). MailIsKept n (history old.disk) (history new.disk)) (sym is) mail;
  reads = reads;
  changes = changes;
  unfailed = unfailed;
  fell = fell;
  unread = λ none. absurd none;
  calm = λ answers told. calm told;
  tells = tells;
  undoomed = λ none. absurd none;
  idle = λ reads. absurd reads;
  still = λ was. (idle_same history old new (still was), ap (λ (s : StoreValue _). (faults s.disk).changes) (still was));
  same = idle_disk history old new;
  refused = λ why begun. absurd begun;
  left = λ runs. tt;
  fetches = tt;
}

-- ---- a first event that is refused

-- a refusal that is a step is neither of these
not_a_step : (why other : Refusal) → why ≡ other → is_step other ≡ false → is_step why ≡ true → ⊥
not_a_step why other is none step = let k : true ≡ false = sym step ∙ (ap is_step is ∙ none) in cc k

pub copy_refused : {D : Type 0} → (name : List ℕ) (uid : Uid) (target : List ℕ) (now next : CopyStage) (old new : StoreValue D) (answer : Progress) (why : Refusal) → now ≡ copy_stage.First → answer ≡ progress.Done (reply.Refused why) → is_step why ≡ true → CopyAnswers name uid target now old new next answer → new ≡ old
copy_refused name uid target now next old new answer why is e step said = by_next next (subst (λ (k : CopyStage). CopyAnswers name uid target k old new next (progress.Done (reply.Refused why))) is (subst (λ (a : Progress). CopyAnswers name uid target now old new next a) e said))
  where
    by_next : (next : CopyStage) → CopyAnswers name uid target copy_stage.First old new next (progress.Done (reply.Refused why)) → new ≡ old
    by_next copy_stage.First (inl s) = absurd (not_a_step why refusal.Stopped s.0 refl step)
    by_next copy_stage.First (inr s) = s.0
    by_next (copy_stage.Adding held source) s = absurd s
    by_next (copy_stage.BeginningAgain held) s = absurd s
    by_next (copy_stage.GivingBack held cause) s = absurd s

pub move_refused : {D : Type 0} → (name : List ℕ) (uid : Uid) (target : List ℕ) (now next : MoveStage) (old new : StoreValue D) (answer : Progress) (why : Refusal) → now ≡ move_stage.First → answer ≡ progress.Done (reply.Refused why) → is_step why ≡ true → MoveAnswers name uid target now old new next answer → new ≡ old
move_refused name uid target now next old new answer why is e step said = by_next next (subst (λ (k : MoveStage). MoveAnswers name uid target k old new next (progress.Done (reply.Refused why))) is (subst (λ (a : Progress). MoveAnswers name uid target now old new next a) e said))
  where
    by_next : (next : MoveStage) → MoveAnswers name uid target move_stage.First old new next (progress.Done (reply.Refused why)) → new ≡ old
    by_next move_stage.First (inl s) = absurd (not_a_step why refusal.Stopped s.0 refl step)
    by_next move_stage.First (inr s) = s.0
    by_next next s = absurd s

pub expunge_refused : {D : Type 0} → (name : List ℕ) (uid : Uid) (now next : ExpungeStage) (old new : StoreValue D) (answer : Progress) (why : Refusal) → now ≡ expunge_stage.First → answer ≡ progress.Done (reply.Refused why) → is_step why ≡ true → ExpungeAnswers name uid now old new next answer → new ≡ old
expunge_refused name uid now next old new answer why is e step said = by_next next why step (subst (λ (k : ExpungeStage). ExpungeAnswers name uid k old new next (progress.Done (reply.Refused why))) is (subst (λ (a : Progress). ExpungeAnswers name uid now old new next a) e said))
  where
    by_next : (next : ExpungeStage) (why : Refusal) → is_step why ≡ true → ExpungeAnswers name uid expunge_stage.First old new next (progress.Done (reply.Refused why)) → new ≡ old
    by_next expunge_stage.First refusal.Stopped step s = absurd (not_a_step refusal.Stopped refusal.Stopped refl refl step)
    by_next expunge_stage.First why step s = s.0
    by_next (expunge_stage.Owing owed) why step s = absurd s

unmade : {D : Type 0} → (name : List ℕ) (old new : StoreValue D) (why : Refusal) → is_step why ≡ true → (e : NotDone) → why ≡ refusal_told e → IsLogNotMade name e old new → new ≡ old
unmade name old new why step (not_done.Refused other) is s = s.0
unmade name old new why step not_done.NoMemory is s = absurd (not_a_step why refusal.NoMemory is refl step)
unmade name old new why step not_done.Stopped is s = absurd (not_a_step why refusal.Stopped is refl step)

pub make_refused : {D : Type 0} → (name : List ℕ) (now next : MakeStage) (old new : StoreValue D) (before after : Option History) (answer : Progress) (why : Refusal) → now ≡ make_stage.First → answer ≡ progress.Done (reply.Refused why) → is_step why ≡ true → MakeAnswers name now old new before after next answer → new ≡ old
make_refused name now next old new before after answer why is e step said = by_next next (subst (λ (k : MakeStage). MakeAnswers name k old new before after next (progress.Done (reply.Refused why))) is (subst (λ (a : Progress). MakeAnswers name now old new before after next a) e said))
  where
    by_next : (next : MakeStage) → MakeAnswers name make_stage.First old new before after next (progress.Done (reply.Refused why)) → new ≡ old
    by_next make_stage.First s = unmade name old new why step s.0 s.1 s.2
    by_next (make_stage.Naming number) s = absurd s

done_one : (a b : Reply) → progress.Done a ≡ progress.Done b → a ≡ b
done_one a b e = cc e

pub ops_refused : {D : Type 0} → (q : Request) (old new : StoreValue D) (given : Reply) (answer : Progress) (why : Refusal) → answer ≡ progress.Done given → answer ≡ progress.Done (reply.Refused why) → is_step why ≡ true → Replies q old new given → (AppendsNothing q old → new ≡ old) → new ≡ old
ops_refused (request.List name) old new given answer why is e step said same = same tt
ops_refused (request.Flag name uid flags) old new given answer why is e step said same = by_check (flag_refusal name uid.0 old) refl
  where
    told : given ≡ reply.Refused why
    told = done_one given (reply.Refused why) (sym is ∙ e)

    by_reply : (given ≡ reply.Done) ⊎ ((given ≡ reply.Refused refusal.Stopped) × (new.stopped ≡ true)) → new ≡ old
    by_reply (inl done) = absurd (let k : reply.Done ≡ reply.Refused why = sym done ∙ told in cc k)
    by_reply (inr fell) = absurd (not_a_step why refusal.Stopped (let k : reply.Refused why ≡ reply.Refused refusal.Stopped = sym told ∙ fell.0 in cc k) refl step)

    by_check : (o : Option Refusal) → flag_refusal name uid.0 old ≡ o → new ≡ old
    by_check None free = by_reply (said.1 free)
    by_check (Some cause) check = same (cause, check)
ops_refused (request.Keywords name uid words) old new given answer why is e step said same = by_check (flag_refusal name uid.0 old) said
  where
    told : given ≡ reply.Refused why
    told = done_one given (reply.Refused why) (sym is ∙ e)

    by_check : (o : Option Refusal) → WordsAnswers o old new given → new ≡ old
    by_check (Some cause) s = s.1
    by_check None (inl done) = absurd (let k : reply.Done ≡ reply.Refused why = sym done ∙ told in cc k)
    by_check None (inr (inl untaken)) = untaken.1
    by_check None (inr (inr fell)) = absurd (not_a_step why refusal.Stopped (let k : reply.Refused why ≡ reply.Refused refusal.Stopped = sym told ∙ fell.0 in cc k) refl step)
ops_refused other old new given answer why is e step said same = absurd said

pub delete_refused : {D : Type 0} → (name : List ℕ) (now next : DeleteStage) (old new : StoreValue D) (before after : Option History) (answer : Progress) (why : Refusal) → now ≡ delete_stage.First → answer ≡ progress.Done (reply.Refused why) → is_step why ≡ true → DeleteAnswers name now old new before after next answer → new ≡ old
delete_refused name now next old new before after answer why is e step said = by_next next why step (subst (λ (k : DeleteStage). DeleteAnswers name k old new before after next (progress.Done (reply.Refused why))) is (subst (λ (a : Progress). DeleteAnswers name now old new before after next a) e said))
  where
    by_next : (next : DeleteStage) (why : Refusal) → is_step why ≡ true → DeleteAnswers name delete_stage.First old new before after next (progress.Done (reply.Refused why)) → new ≡ old
    by_next delete_stage.First refusal.Stopped step s = absurd (not_a_step refusal.Stopped refusal.Stopped refl refl step)
    by_next delete_stage.First why step s = s.0
    by_next (delete_stage.RemovingLog number generation) why step s = absurd s

pub rename_refused : {D : Type 0} → (name target : List ℕ) (old new : StoreValue D) (before after : Option History) (given : Reply) (answer : Progress) (why : Refusal) → answer ≡ progress.Done given → answer ≡ progress.Done (reply.Refused why) → is_step why ≡ true → RenameAnswers name target old new before after given → new ≡ old
rename_refused name target old new before after given answer why is e step said = by_why why step (subst (λ (r : Reply). RenameAnswers name target old new before after r) (done_one given (reply.Refused why) (sym is ∙ e)) said)
  where
    by_why : (why : Refusal) → is_step why ≡ true → RenameAnswers name target old new before after (reply.Refused why) → new ≡ old
    by_why refusal.Stopped step s = absurd (not_a_step refusal.Stopped refusal.Stopped refl refl step)
    by_why why step s = s.0
