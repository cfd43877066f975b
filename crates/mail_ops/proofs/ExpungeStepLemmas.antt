-- What the step of an expunge says, event by event.
use Rattle.mail_ops.proofs.Common.{◌≡◌, ◌≤◌, ◌<◌, ◌+◌, ℕ, true, false, List, Option, Some, None, refl, sym, ◌∙◌, ap, subst, arith, inl, inr, ◌⊎◌, History, Faults, MapUid, Uid, Did, Progress, Refusal, due_at, Moves, amounts_in, KeepsRest, IsStore, StoreValue, moves_as, one_due, IsKept, ended_by}
use Rattle.mail_ops.proofs.Common.{MapTook, MapFell, lowering_of, ChangesOnlyLogs, refusal_told, told_as, expunge_amounts, ExpungesOn, RemovesRow, FellRemoving, missing_message, AreDueIn, NotDone, ExpungeStage, due_as_before}
use Rattle.mdbox_base.specs.declared.progress.Did.TheVariants as did
use Rattle.mdbox_base.specs.declared.progress.Progress.TheVariants as progress
use Rattle.mdbox_base.specs.declared.replies.Refusal.TheVariants as refusal
use Rattle.mdbox_base.specs.declared.replies.Reply.TheVariants as reply
use Rattle.mdbox_base.specs.declared.script.Half.TheVariants as half
use Rattle.journal.specs.Stages.{ToRemove, ToLower}
use Rattle.task_steps.proofs.ExpungingLemmas.{expunges_are_kept}
use Rattle.mail_ops.specs.Expunging.{ExpungeValue, IsAtExpunge, expunge_left, ExpungeAnswers, IsNotRemoved}
use Rattle.mail_ops.specs.declared.event.NotDone.TheVariants as not_done
use Rattle.mail_ops.specs.declared.expunging.ExpungeStage.TheVariants as stage
use Rattle.mail_ops.proofs.ExpungeEventLemmas.{ExpungeClause, expunge_stopped, expunge_removed, expunge_broken, expunge_refused, expunge_unremembered, expunge_lowered, expunge_unlowered}
use Rattle.mail_ops.proofs.LoweringLemmas.{lowered_due, raised_covers, raised_moves}
use Rattle.mail_ops.proofs.MessageLemmas.{missing_is, not_missing}
use Rattle.mail_ops.proofs.RemovalLemmas.{removal_due}
use Rattle.mail_ops.proofs.OnlyLogsLemmas.{box_fell_keeps, box_took_keeps, idle_keeps, map_fell_keeps, map_took_keeps}
use Rattle.mail_ops.proofs.ToldLemmas.{done_more, memory_runs, more_is, why_is}

-- what a step says of an event
pub record ExpungeKnown {D : Type 0} (name : List ℕ) (uid : Uid) (now next : ExpungeStage) (answer : Progress) (how : Did) (old new : StoreValue D) (before after : Option History) (began then : Faults) : Type 0 where
  pub due : AreDueIn new (expunge_amounts next)
  pub does : ExpungeClause name uid now next old new before after began then how (ended_by answer)
  pub keeps : ChangesOnlyLogs (KeepsRest old new) now next answer old new before after began then
  pub moves : Moves (expunge_amounts now) (expunge_amounts next) (amounts_in old) (amounts_in new)
  pub replies : ExpungeAnswers name uid now old new next answer
  pub left : answer ≡ progress.More → expunge_left next < expunge_left now

-- ---- answers that are told apart

done_stopped : progress.Done reply.Done ≡ progress.Done (reply.Refused refusal.Stopped) → ⊥
done_stopped e = let k : reply.Done ≡ reply.Refused refusal.Stopped = cc e in cc k

-- ---- the first event

known_removed : {D : Type 0} → (name : List ℕ) (uid : Uid) (owed : MapUid) (old new : StoreValue D) (before after : Option History) (began then : Faults) → IsStore before old → old.stopped ≡ false → RemovesRow name uid owed old new before after began then
    → ExpungeKnown name uid stage.First (stage.Owing owed) progress.More (did.Step half.Whole) old new before after began then
known_removed name uid owed old new before after began then is ran r = record {
  due = λ other. raised_covers (due_at other old) (due_at other new) owed.0 other (rises other);
  does = expunge_removed name uid owed old new before after began then is ran r;
  keeps = box_took_keeps _ _ _ _ _ old new before after began then ran (more_is (reply.Refused refusal.Stopped)) r.took;
  moves = record { due = λ other. raised_moves (due_at other old) (due_at other new) owed.0 other (rises other) };
  replies = (r.number, r.row, r.there, r.owes);
  left = λ e. omega arith;
}
  where
    rises : (other : ℕ) → due_at other new ≡ due_at other old + one_due owed.0 other
    rises other = subst (λ (u : ℕ). due_at other new ≡ due_at other old + one_due u other) (sym r.owes) (removal_due old new r.there.m uid r.row other r.there.listed (r.took.due r.there.m other r.there.box.numbered))

known_broken : {D : Type 0} → (name : List ℕ) (uid : Uid) (old new : StoreValue D) (before after : Option History) (began then : Faults) → IsStore before old → old.stopped ≡ false → FellRemoving name uid old new before after began then
    → ExpungeKnown name uid stage.First stage.First (progress.Done (reply.Refused refusal.Stopped)) (did.Broken half.Whole) old new before after began then
known_broken name uid old new before after began then is ran r = record {
  due = λ other. omega arith;
  does = expunge_broken name uid old new before after began then is ran r;
  keeps = box_fell_keeps _ _ _ _ old new before after began then ran r.fell;
  moves = moves_as (expunge_amounts stage.First) (amounts_in old) (amounts_in new) (λ other. due_as_before old new other r.fell.appends.map r.fell.dues);
  replies = (r.fell.stopped, not_missing name uid.0 old r.number r.row r.there);
  left = λ e. absurd (done_more (reply.Refused refusal.Stopped) e);
}

-- nothing has changed
same_answers : {D : Type 0} → (name : List ℕ) (uid : Uid) (why : Refusal) (store : StoreValue D) → (why ≡ refusal.Stopped → ⊥) → (missing_message name uid.0 store ≡ Some why) ⊎ ((missing_message name uid.0 store ≡ None) × (why ≡ refusal.NoMemory)) → ExpungeAnswers name uid stage.First store store stage.First (progress.Done (reply.Refused why))
same_answers name uid refusal.Stopped store running h = absurd (running refl)
same_answers name uid why store running h = (refl, h)

known_same : {D : Type 0} → (name : List ℕ) (uid : Uid) (why : Refusal) (how : Did) (store : StoreValue D) (history : Option History) (faults : Faults) → store.stopped ≡ false → (why ≡ refusal.Stopped → ⊥) → (missing_message name uid.0 store ≡ Some why) ⊎ ((missing_message name uid.0 store ≡ None) × (why ≡ refusal.NoMemory))
    → ExpungeClause name uid stage.First stage.First store store history history faults faults how (Some (reply.Refused why)) → ExpungeKnown name uid stage.First stage.First (progress.Done (reply.Refused why)) how store store history history faults faults
known_same name uid why how store history faults runs running missing does = record {
  due = λ other. omega arith;
  does = does;
  keeps = idle_keeps (KeepsRest store store) _ _ _ store history faults runs (λ e. running (why_is why refusal.Stopped e)) refl;
  moves = moves_as (expunge_amounts stage.First) (amounts_in store) (amounts_in store) (λ other. refl);
  replies = same_answers name uid why store running missing;
  left = λ e. absurd (done_more (reply.Refused why) e);
}

missing_runs : (why : Refusal) → (why ≡ refusal.NoMailbox) ⊎ (why ≡ refusal.NoMessage) → why ≡ refusal.Stopped → ⊥
missing_runs why (inl e) f = let k : refusal.NoMailbox ≡ refusal.Stopped = sym e ∙ f in cc k
missing_runs why (inr e) f = let k : refusal.NoMessage ≡ refusal.Stopped = sym e ∙ f in cc k

known_refused : {D : Type 0} → (history : D → Option History) (faults : D → Faults) (name : List ℕ) (uid : Uid) (error : NotDone) (old new : StoreValue D) → IsStore (history old.disk) old → old.stopped ≡ false
    → IsNotRemoved name uid error old new (history old.disk) (history new.disk) (faults old.disk) (faults new.disk)
    → ExpungeKnown name uid stage.First stage.First (progress.Done (reply.Refused (refusal_told error))) (told_as half.Whole (did.Broken half.Whole) error) old new (history old.disk) (history new.disk) (faults old.disk) (faults new.disk)
known_refused history faults name uid (not_done.Refused why) old new is ran r = rw r.0 (known_same name uid why (did.Step half.Whole) old (history old.disk) (faults old.disk) ran (missing_runs why (missing_is name uid.0 old why r.1)) (inl r.1) (expunge_refused name uid old (history old.disk) (faults old.disk) why ran r.1))
known_refused history faults name uid not_done.NoMemory old new is ran r = rw r.0 (known_same name uid refusal.NoMemory did.Quiet old (history old.disk) (faults old.disk) ran memory_runs (inr (r.1, refl)) (expunge_unremembered name uid old (history old.disk) (faults old.disk) ran))
known_refused history faults name uid not_done.Stopped old new is ran r = known_broken name uid old new (history old.disk) (history new.disk) (faults old.disk) (faults new.disk) is ran r

-- ---- the last event

lowered_moves : (old new owed uid : ℕ) → new + one_due owed uid ≡ old → new + one_due owed uid ≡ old + 0
lowered_moves old new owed uid e = omega (arith, e)

known_lowered : {D : Type 0} → (name : List ℕ) (uid : Uid) (owed : MapUid) (old new : StoreValue D) (before after : Option History) (began then : Faults) → old.stopped ≡ false → AreDueIn old (expunge_amounts (stage.Owing owed)) → MapTook (lowering_of owed) old new before after began then
    → ExpungeKnown name uid (stage.Owing owed) stage.First (progress.Done reply.Done) did.Quiet old new before after began then
known_lowered name uid owed old new before after began then ran due t = record {
  due = λ other. omega arith;
  does = expunge_lowered name uid owed old new before after began then ran due t;
  keeps = map_took_keeps _ _ _ _ old new before after began then ran done_stopped t;
  moves = record { due = λ other. lowered_moves (due_at other old) (due_at other new) owed.0 other (lowered_due owed old new other (due other) (t.due other)) };
  replies = tt;
  left = λ e. absurd (done_more reply.Done e);
}

known_unlowered : {D : Type 0} → (name : List ℕ) (uid : Uid) (owed : MapUid) (old new : StoreValue D) (before after : Option History) (began then : Faults) → old.stopped ≡ false → AreDueIn old (expunge_amounts (stage.Owing owed)) → MapFell old new before after began then
    → ExpungeKnown name uid (stage.Owing owed) (stage.Owing owed) (progress.Done (reply.Refused refusal.Stopped)) did.Failed old new before after began then
known_unlowered name uid owed old new before after began then ran due f = record {
  due = λ other. subst (λ (n : ℕ). one_due owed.0 other ≤ n) (sym (due_as_before old new other f.map f.dues)) (due other);
  does = expunge_unlowered name uid owed old new before after began then ran f;
  keeps = map_fell_keeps _ _ old new before after began then ran f;
  moves = moves_as (expunge_amounts (stage.Owing owed)) (amounts_in old) (amounts_in new) (λ other. due_as_before old new other f.map f.dues);
  replies = (refl, f.stopped);
  left = λ e. absurd (done_more (reply.Refused refusal.Stopped) e);
}

-- ---- any event

known_by : {D : Type 0} → (history : D → Option History) (faults : D → Faults) (name : List ℕ) (uid : Uid) (now next : ExpungeStage) (answer : Progress) (how : Did) (old new : StoreValue D) → IsStore (history old.disk) old → old.stopped ≡ false → AreDueIn old (expunge_amounts now)
    → ExpungesOn name uid now next answer how old new (history old.disk) (history new.disk) (faults old.disk) (faults new.disk) → ExpungeKnown name uid now next answer how old new (history old.disk) (history new.disk) (faults old.disk) (faults new.disk)
known_by history faults name uid stage.First (stage.Owing owed) progress.More how old new is ran due on = rw on.0 (known_removed name uid owed old new (history old.disk) (history new.disk) (faults old.disk) (faults new.disk) is ran on.1)
known_by history faults name uid stage.First stage.First (progress.Done (reply.Refused why)) how old new is ran due on = rw (on.2, on.1) (known_refused history faults name uid on.0 old new is ran on.3)
known_by history faults name uid (stage.Owing owed) stage.First (progress.Done reply.Done) how old new is ran due on = rw on.0 (known_lowered name uid owed old new (history old.disk) (history new.disk) (faults old.disk) (faults new.disk) ran due on.1)
known_by history faults name uid (stage.Owing owed) (stage.Owing still) (progress.Done (reply.Refused why)) how old new is ran due on = rw (on.2, on.1, on.0) (known_unlowered name uid owed old new (history old.disk) (history new.disk) (faults old.disk) (faults new.disk) ran due on.3)
known_by history faults name uid now next answer how old new is ran due on = absurd on

-- Of a task that is seen as this.
pub expunge_known : {D : Type 0} → (history : D → Option History) (faults : D → Faults) (task seen : ExpungeValue) (now next : ExpungeStage) (answer : Progress) (how : Did) (old new : StoreValue D) → task ≡ seen → task.stage ≡ now → IsStore (history old.disk) old → old.stopped ≡ false
    → AreDueIn old (expunge_amounts seen.stage) → ExpungesOn task.name task.uid now next answer how old new (history old.disk) (history new.disk) (faults old.disk) (faults new.disk)
    → ExpungeKnown seen.name seen.uid seen.stage next answer how old new (history old.disk) (history new.disk) (faults old.disk) (faults new.disk)
expunge_known history faults task seen now next answer how old new same at is ran due on =
    subst (λ (v : ExpungeValue). ExpungeKnown v.name v.uid v.stage next answer how old new (history old.disk) (history new.disk) (faults old.disk) (faults new.disk)) same
    (subst (λ (s : ExpungeStage). ExpungeKnown task.name task.uid s next answer how old new (history old.disk) (history new.disk) (faults old.disk) (faults new.disk)) (sym at) (known_by history faults task.name task.uid now next answer how old new is ran (subst (λ (s : ExpungeStage). AreDueIn old (expunge_amounts s)) (sym (ap (λ (v : ExpungeValue). v.stage) same) ∙ at) due) on))

-- Of one whose store was stopped.
pub stopped_known : {D : Type 0} → (task seen : ExpungeValue) (store : StoreValue D) (history : Option History) (faults : Faults) → task ≡ seen → store.stopped ≡ true → ExpungeClause seen.name seen.uid seen.stage task.stage store store history history faults faults did.Quiet (Some (reply.Refused refusal.Stopped))
stopped_known task seen store history faults same stopped =
    subst (λ (v : ExpungeValue). ExpungeClause v.name v.uid v.stage task.stage store store history history faults faults did.Quiet (Some (reply.Refused refusal.Stopped))) same (expunge_stopped task.name task.uid task.stage store history faults stopped)

-- ---- as other requests go on

pub expunge_kept : (stage : ExpungeStage) → IsKept (IsAtExpunge stage)
expunge_kept stage.First = expunges_are_kept ToRemove
expunge_kept (stage.Owing owed) = expunges_are_kept (ToLower owed.0)
