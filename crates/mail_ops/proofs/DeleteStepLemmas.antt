-- What the step of a deletion says, event by event.
use Rattle.mail_ops.proofs.Common.{◌≡◌, ◌≤◌, ◌<◌, ◌==◌, ◌⊎◌, cond, eqb-true, ℕ, Bool, true, false, not, List, [], ◌∷◌, Option, Some, None, refl, sym, ◌∙◌, ap, subst, arith, inl, inr, All, filter, History, Faults, BoxNo, Did, Progress, Refusal, MapBox, MapMeaning, KeepsRest, KeepsUids}
use Rattle.mail_ops.proofs.Common.{has_made_log, IsStore, StoreValue, indexes_of, ended_by, refusal_told, told_as, IsStoppedSo, HasChangedDisk, FellChanging, NotDone, SyncsMail, ChangesOnlyLogs, eq-eqb}
use Rattle.std.specs.Prelude.{◌≢◌, Contains, max}
use Rattle.std.proofs.lemmas.List.Elements.{All-nil, All-cons, All-contains}
use Rattle.gate_log.specs.Log.{NamedButFor}
use Rattle.disk_model.specs.declared.name.FileName.TheVariants as file
use Rattle.mdbox_base.specs.declared.progress.Did.TheVariants as did
use Rattle.mdbox_base.specs.declared.progress.Progress.TheVariants as progress
use Rattle.mdbox_base.specs.declared.replies.Refusal.TheVariants as refusal
use Rattle.mdbox_base.specs.declared.replies.Reply.TheVariants as reply
use Rattle.mdbox_base.specs.declared.script.Half.TheVariants as half
use Rattle.model_meaning.proofs.AppliedLemmas.{boxes_by_deleted}
use Rattle.model_octets.proofs.SearchLemmas.{found_one}
use Rattle.store_core.specs.MadeLogs.{IsGone, IsUnnamed, KeepsGone}
use Rattle.task_claims.proofs.GoneLemmas.{gone_same, gone_stays}
use Rattle.mail_ops.specs.Changing.{MayChangeBox, deleting_refusal}
use Rattle.mail_ops.specs.Deleting.{DeleteAnswers, DeleteValue, DeletedSo, DeletesBox, DeletesOn, FellDeleting, IsBoxNotDeleted, IsReadyToDelete, RemovesBoxLog, delete_left}
use Rattle.mail_ops.specs.Making.{same_lists}
use Rattle.mail_ops.specs.declared.deleting.DeleteStage.{DeleteStage}
use Rattle.mail_ops.specs.declared.deleting.DeleteStage.TheVariants as stage
use Rattle.mail_ops.specs.declared.event.NotDone.TheVariants as not_done
use Rattle.mail_ops.proofs.ChangeCheckLemmas.{deleting_steps, mailbox_there}
use Rattle.mail_ops.proofs.DeleteEventLemmas.{DeleteClause, deleting_done, deleting_fell, deleting_refused, deleting_stopped, deleting_unremembered, removing_broke, removing_done, removing_stopped}
use Rattle.mail_ops.proofs.KeptUidLemmas.{logs_keep, same_keeps}
use Rattle.mail_ops.proofs.OnlyLogsLemmas.{done_keeps, done_not, fell_keeps, idle_keeps, took_spares}
use Rattle.mail_ops.proofs.ToldLemmas.{done_more, memory_runs, more_is, step_runs, why_is}

-- what a step says of an event
pub record DeleteKnown {D : Type 0} (name : List ℕ) (now next : DeleteStage) (answer : Progress) (how : Did) (old new : StoreValue D) (before after : Option History) (began then : Faults) : Type 0 where
  pub ready : IsReadyToDelete next new
  pub does : DeleteClause name now next old new before after began then how (ended_by answer)
  pub keeps : ChangesOnlyLogs (KeepsRest old new) now next answer old new before after began then
  pub uids : KeepsUids old new
  pub gone : KeepsGone old new
  pub replies : DeleteAnswers name now old new before after next answer
  pub left : answer ≡ progress.More → delete_left next < delete_left now

-- What is known of the store as an event begins.
pub record DeleteBegins {D : Type 0} (now : DeleteStage) (store : StoreValue D) (history : Option History) : Type 0 where
  pub store_is : IsStore history store
  pub runs : store.stopped ≡ false
  pub ready : IsReadyToDelete now store
  pub made : (number : ℕ) → has_made_log number store ≡ true → IsUnnamed number store.map

abbrev KnownBy : {D : Type 0} → (D → Option History) → (D → Faults) → List ℕ → DeleteStage → DeleteStage → Progress → Did → StoreValue D → StoreValue D → Type 0
KnownBy history faults name now next answer how old new = DeleteKnown name now next answer how old new (history old.disk) (history new.disk) (faults old.disk) (faults new.disk)

-- ---- the number of a mailbox that has left

-- none of the others has it
left_boxes : (n : ℕ) (boxes : List MapBox) → All (λ box. box.number ≢ n) (filter (λ box. not (n == box.number)) boxes)
left_boxes n [] = All-nil (λ (box : MapBox). box.number ≢ n)
left_boxes n (b ∷ bs) = by_test (n == b.number) refl (left_boxes n bs)
  where
    by_test : (t : Bool) → (n == b.number) ≡ t → All (λ box. box.number ≢ n) (filter (λ box. not (n == box.number)) bs)
        → All (λ box. box.number ≢ n) (cond (not t) (b ∷ filter (λ box. not (n == box.number)) bs) (filter (λ box. not (n == box.number)) bs))
    by_test true e rest = rest
    by_test false e rest = All-cons (λ (box : MapBox). box.number ≢ n) b (filter (λ (box : MapBox). not (n == box.number)) bs) (λ same. let k : false ≡ true = sym e ∙ eq-eqb n b.number (sym same) in cc k) rest

-- no log is made of a number that a mailbox has
named_unmade : {D : Type 0} → (name : List ℕ) (number : ℕ) (store : StoreValue D) → MayChangeBox name number store → ((n : ℕ) → has_made_log n store ≡ true → IsUnnamed n store.map) → has_made_log number store ≡ false
named_unmade name number store b made = by_test (has_made_log number store) refl
  where
    there : (box : MapBox) × (Contains store.map.boxes box) × (box.number ≡ number)
    there =
        let at = mailbox_there number store.map.boxes (indexes_of store.boxes) b.m b.box.numbered in
        let f = found_one (λ (box : MapBox). box.number == number) store.map.boxes at.0 at.1 in
        (at.0, f.0, eqb-true at.0.number number f.1)

    by_test : (t : Bool) → has_made_log number store ≡ t → has_made_log number store ≡ false
    by_test true e = absurd (All-contains (λ (box : MapBox). box.number ≢ number) store.map.boxes there.0 (made number e) there.1 there.2)
    by_test false e = e

pub deleted_gone : {D : Type 0} → (name : List ℕ) (number : BoxNo) (generation : ℕ) (old new : StoreValue D) → DeletesBox name number generation old new → ((n : ℕ) → has_made_log n old ≡ true → IsUnnamed n old.map) → IsGone number.0 new
deleted_gone name number generation old new b made = record {
  given = subst (λ (m : MapMeaning). number.0 ≤ m.highest.mailbox) (sym b.map) (named_is old.map.highest.mailbox number.0);
  unnamed = subst (λ (bs : List MapBox). All (λ (box : MapBox). box.number ≢ number.0) bs) (sym (ap (λ (m : MapMeaning). m.boxes) b.map ∙ boxes_by_deleted number b.amounts old.map.boxes)) (left_boxes number.0 old.map.boxes);
  unmade = ap (λ (s : StoreValue _). has_made_log number.0 s) b.same ∙ named_unmade name number.0 old b.box made;
}
  where
    named_is : (a n : ℕ) → n ≤ max a n
    named_is a n = omega arith

-- ---- the first event

-- the answer of a refusal that stops no store
refused_answer : {D : Type 0} → (name : List ℕ) (why : Refusal) (store : StoreValue D) (before after : Option History) → (why ≡ refusal.Stopped → ⊥) → (deleting_refusal name store ≡ Some why) ⊎ ((deleting_refusal name store ≡ None) × (why ≡ refusal.NoMemory))
    → DeleteAnswers name stage.First store store before after stage.First (progress.Done (reply.Refused why))
refused_answer name refusal.Stopped store before after other cause = absurd (other refl)
refused_answer name why store before after other cause = (refl, cause)

-- it was refused by a check: nothing has changed
known_refused : {D : Type 0} → (name : List ℕ) (why : Refusal) (store : StoreValue D) (history : Option History) (faults : Faults) → DeleteBegins stage.First store history → deleting_refusal name store ≡ Some why
    → DeleteKnown name stage.First stage.First (progress.Done (reply.Refused why)) (did.Step half.Whole) store store history history faults faults
known_refused name why store history faults b refuses =
    let runs_on : why ≡ refusal.Stopped → ⊥ = step_runs why (deleting_steps name store why refuses) in record {
      ready = tt;
      does = deleting_refused name stage.First store history faults why b.runs refuses;
      keeps = idle_keeps (KeepsRest store store) _ _ _ store history faults b.runs (λ e. runs_on (why_is why refusal.Stopped e)) refl;
      uids = same_keeps store store refl;
      gone = gone_same store;
      replies = refused_answer name why store history history runs_on (inl refuses);
      left = λ e. absurd (done_more (reply.Refused why) e);
    }

-- out of memory
known_unremembered : {D : Type 0} → (name : List ℕ) (store : StoreValue D) (history : Option History) (faults : Faults) → DeleteBegins stage.First store history → deleting_refusal name store ≡ None
    → DeleteKnown name stage.First stage.First (progress.Done (reply.Refused refusal.NoMemory)) did.Quiet store store history history faults faults
known_unremembered name store history faults b free = record {
  ready = tt;
  does = deleting_unremembered name stage.First store history faults b.runs;
  keeps = idle_keeps (KeepsRest store store) _ _ _ store history faults b.runs (λ e. memory_runs (why_is refusal.NoMemory refusal.Stopped e)) refl;
  uids = same_keeps store store refl;
  gone = gone_same store;
  replies = (refl, inr (free, refl));
  left = λ e. absurd (done_more (reply.Refused refusal.NoMemory) e);
}

-- what has stopped leaves
pub stopped_rest : {D : Type 0} → (old new : StoreValue D) → IsStoppedSo old new → KeepsRest old new
stopped_rest old new same = subst (λ (s : StoreValue _). KeepsRest old s) (sym same) refl

pub stopped_gone : {D : Type 0} → (old new : StoreValue D) → IsStoppedSo old new → KeepsGone old new
stopped_gone old new same = gone_stays old new (ap (λ (s : StoreValue _). s.map.boxes) same) (ap (λ (s : StoreValue _). s.made) same) (let e = ap (λ (s : StoreValue _). s.map.highest.mailbox) same in omega (arith, e))

pub stopped_uids : {D : Type 0} → (old new : StoreValue D) → IsStoppedSo old new → KeepsUids old new
stopped_uids old new same = logs_keep old new (ap (λ (s : StoreValue _). s.map) same) (ap (λ (s : StoreValue _). indexes_of s.boxes) same)

-- the append failed
known_fell : {D : Type 0} → (name : List ℕ) (old new : StoreValue D) (before after : Option History) (began then : Faults) → DeleteBegins stage.First old before → FellDeleting name old new before after began then
    → DeleteKnown name stage.First stage.First (progress.Done (reply.Refused refusal.Stopped)) (did.Broken half.Whole) old new before after began then
known_fell name old new before after began then b f = record {
  ready = tt;
  does = deleting_fell name stage.First old new before after began then b.store_is b.runs f;
  keeps = fell_keeps (KeepsRest old new) _ _ old new before after began then b.runs (ap (λ (s : StoreValue _). s.stopped) f.same) f.fell.change.reads f.fell.change.changes f.fell.rose (stopped_rest old new f.same) f.fell.change.stays;
  uids = stopped_uids old new f.same;
  gone = stopped_gone old new f.same;
  replies = (f.box.free, f.same);
  left = λ e. absurd (done_more (reply.Refused refusal.Stopped) e);
}

known_undeleted : {D : Type 0} → (history : D → Option History) (faults : D → Faults) (name : List ℕ) (error : NotDone) (old new : StoreValue D) → DeleteBegins stage.First old (history old.disk) → IsBoxNotDeleted name error old new (history old.disk) (history new.disk) (faults old.disk) (faults new.disk)
    → KnownBy history faults name stage.First stage.First (progress.Done (reply.Refused (refusal_told error))) (told_as half.Whole (did.Broken half.Whole) error) old new
known_undeleted history faults name (not_done.Refused why) old new b n = rw n.0 (known_refused name why old (history old.disk) (faults old.disk) b n.1)
known_undeleted history faults name not_done.NoMemory old new b n = rw n.0 (known_unremembered name old (history old.disk) (faults old.disk) b n.1)
known_undeleted history faults name not_done.Stopped old new b n = known_fell name old new (history old.disk) (history new.disk) (faults old.disk) (faults new.disk) b n

-- the mailbox has left the map
known_deleted : {D : Type 0} → (name : List ℕ) (number : BoxNo) (generation : ℕ) (old new : StoreValue D) (before after : Option History) (began then : Faults) → DeleteBegins stage.First old before → DeletedSo name number generation old new before after began then
    → DeleteKnown name stage.First (stage.RemovingLog number generation) progress.More (did.Step half.Whole) old new before after began then
known_deleted name number generation old new before after began then b d = record {
  ready = deleted_gone name number generation old new d.box b.made;
  does = deleting_done name number generation old new before after began then b.store_is b.runs d;
  keeps = done_keeps (KeepsRest old new) _ _ _ old new before after began then b.runs (ap (λ (s : StoreValue _). s.stopped) d.box.same ∙ b.runs) (more_is (reply.Refused refusal.Stopped)) d.disk.unfailed (rest_of d.box.same) (took_spares (new.stopped ≡ old.stopped) before after d.disk.change.stays d.mail);
  uids = d.uids;
  gone = d.gone;
  replies = (d.box.box.free, d.box, d.mail);
  left = λ e. omega arith;
}
  where
    rest_of : new ≡ record old { disk = new.disk; map_log = new.map_log; map = new.map; boxes = new.boxes } → KeepsRest old new
    rest_of same = same ∙ ap (λ (s : StoreValue _). record old { disk = new.disk; map_log = new.map_log; map = new.map; boxes = new.boxes; drawn = s.drawn; dues = s.dues; stopped = s.stopped }) (sym same)

-- ---- the second event

mail_no_box : (number place generation : ℕ) → file.Mail number ≡ file.Box place generation → ⊥
mail_no_box number place generation e = cc e

inst_no_box : (hash id : List ℕ) (place generation : ℕ) → file.Inst hash id ≡ file.Box place generation → ⊥
inst_no_box hash id place generation e = cc e

mail_named_by : (number generation : ℕ) (before after : Option History) → NamedButFor (file.Box number generation) before after → SyncsMail before after
mail_named_by number generation None after k = k
mail_named_by number generation (Some b) None k = absurd k
mail_named_by number generation (Some b) (Some a) k = (λ place. inr (k (file.Mail place) (mail_no_box place number generation)), λ hash id. inr (k (file.Inst hash id) (inst_no_box hash id number generation)))

-- its number is no other's still
same_ready : {D : Type 0} → (number : ℕ) (old new : StoreValue D) → new.map ≡ old.map → new.made ≡ old.made → IsGone number old → IsGone number new
same_ready number old new map_is made g = gone_stays old new (ap (λ (m : MapMeaning). m.boxes) map_is) made (let e = ap (λ (m : MapMeaning). m.highest.mailbox) map_is in omega (arith, e)) number g

-- the log was removed
known_removed : {D : Type 0} → (name : List ℕ) (number : BoxNo) (generation : ℕ) (old new : StoreValue D) (before after : Option History) (began then : Faults) → DeleteBegins (stage.RemovingLog number generation) old before → RemovesBoxLog number.0 generation old new before after → HasChangedDisk same_lists before after began then
    → DeleteKnown name (stage.RemovingLog number generation) stage.First (progress.Done reply.Done) did.Quiet old new before after began then
known_removed name number generation old new before after began then b r d = record {
  ready = tt;
  does = removing_done name number generation stage.First old new before after began then b.runs r d;
  keeps = done_keeps (KeepsRest old new) _ _ _ old new before after began then b.runs (ap (λ (s : StoreValue _). s.stopped) r.same ∙ b.runs) done_not d.unfailed rest (record { stays = d.change.stays; left = λ same. mail_named_by number.0 generation before after r.others });
  uids = logs_keep old new (ap (λ (s : StoreValue _). s.map) r.same) (ap (λ (s : StoreValue _). indexes_of s.boxes) r.same);
  gone = gone_stays old new (ap (λ (s : StoreValue _). s.map.boxes) r.same) (ap (λ (s : StoreValue _). s.made) r.same) (let e = ap (λ (s : StoreValue _). s.map.highest.mailbox) r.same in omega (arith, e));
  replies = r;
  left = λ e. absurd (done_more reply.Done e);
}
  where
    rest : KeepsRest old new
    rest = subst (λ (s : StoreValue _). KeepsRest old s) (sym r.same) refl

-- a change of the disk failed
known_broken : {D : Type 0} → (name : List ℕ) (number : BoxNo) (generation : ℕ) (old new : StoreValue D) (before after : Option History) (began then : Faults) → DeleteBegins (stage.RemovingLog number generation) old before → IsStoppedSo old new → FellChanging same_lists before after began then
    → DeleteKnown name (stage.RemovingLog number generation) (stage.RemovingLog number generation) (progress.Done (reply.Refused refusal.Stopped)) did.Failed old new before after began then
known_broken name number generation old new before after began then b same f = record {
  ready = stopped_gone old new same number.0 b.ready;
  does = removing_broke name number generation (stage.RemovingLog number generation) old new before after began then b.runs same f;
  keeps = fell_keeps (KeepsRest old new) _ _ old new before after began then b.runs (ap (λ (s : StoreValue _). s.stopped) same) f.change.reads f.change.changes f.rose (stopped_rest old new same) f.change.stays;
  uids = stopped_uids old new same;
  gone = stopped_gone old new same;
  replies = (refl, refl, refl, same);
  left = λ e. absurd (done_more (reply.Refused refusal.Stopped) e);
}

-- ---- any event

known_by : {D : Type 0} → (history : D → Option History) (faults : D → Faults) (name : List ℕ) (now next : DeleteStage) (answer : Progress) (how : Did) (old new : StoreValue D) → DeleteBegins now old (history old.disk) → DeletesOn name now next answer how old new (history old.disk) (history new.disk) (faults old.disk) (faults new.disk)
    → KnownBy history faults name now next answer how old new
known_by history faults name stage.First (stage.RemovingLog number generation) progress.More how old new b on = rw on.0 (known_deleted name number generation old new (history old.disk) (history new.disk) (faults old.disk) (faults new.disk) b on.1)
known_by history faults name stage.First stage.First (progress.Done (reply.Refused why)) how old new b on = rw (on.2, on.1) (known_undeleted history faults name on.0 old new b on.3)
known_by history faults name (stage.RemovingLog number generation) stage.First (progress.Done reply.Done) how old new b on = rw on.0 (known_removed name number generation old new (history old.disk) (history new.disk) (faults old.disk) (faults new.disk) b on.1 on.2)
known_by history faults name (stage.RemovingLog number generation) (stage.RemovingLog still same) (progress.Done (reply.Refused why)) how old new b on =
    rw (on.0, on.1, on.2, on.3) (known_broken name number generation old new (history old.disk) (history new.disk) (faults old.disk) (faults new.disk) b on.4 on.5)
known_by history faults name now next answer how old new b on = absurd on

-- Of a task that is seen as this.
pub delete_known_by : {D : Type 0} → (history : D → Option History) (faults : D → Faults) (task seen : DeleteValue) (next : DeleteStage) (answer : Progress) (how : Did) (old new : StoreValue D) → task ≡ seen → IsStore (history old.disk) old → old.stopped ≡ false → IsReadyToDelete seen.stage old
    → ((number : ℕ) → has_made_log number old ≡ true → IsUnnamed number old.map) → DeletesOn task.name task.stage next answer how old new (history old.disk) (history new.disk) (faults old.disk) (faults new.disk)
    → KnownBy history faults seen.name seen.stage next answer how old new
delete_known_by history faults task seen next answer how old new same is runs ready made on =
    subst (λ (v : DeleteValue). KnownBy history faults v.name v.stage next answer how old new) same
    (known_by history faults task.name task.stage next answer how old new (record { store_is = is; runs = runs; ready = subst (λ (v : DeleteValue). IsReadyToDelete v.stage old) (sym same) ready; made = made }) on)

-- Of one whose store was stopped.
stopped_at : {D : Type 0} → (name : List ℕ) (now next : DeleteStage) (store : StoreValue D) (history : Option History) (faults : Faults) → store.stopped ≡ true → DeleteClause name now next store store history history faults faults did.Quiet (Some (reply.Refused refusal.Stopped))
stopped_at name stage.First next store history faults stopped = deleting_stopped name next store history faults stopped
stopped_at name (stage.RemovingLog number generation) next store history faults stopped = removing_stopped name number generation next store history faults stopped

pub delete_stopped : {D : Type 0} → (task seen : DeleteValue) (store : StoreValue D) (history : Option History) (faults : Faults) → task ≡ seen → store.stopped ≡ true → DeleteClause seen.name seen.stage task.stage store store history history faults faults did.Quiet (Some (reply.Refused refusal.Stopped))
delete_stopped task seen store history faults same stopped =
    subst (λ (v : DeleteValue). DeleteClause v.name v.stage task.stage store store history history faults faults did.Quiet (Some (reply.Refused refusal.Stopped))) same (stopped_at task.name task.stage task.stage store history faults stopped)
