-- What the step of a renaming says, by what its event did.
use Rattle.mail_ops.proofs.Common.{◌≡◌, ◌⊎◌, ℕ, true, false, List, Option, Some, None, refl, sym, ◌∙◌, ap, subst, inl, inr, History, Faults, Did, Refusal, Reply, KeepsRest, KeepsUids, IsStore, StoreValue, refusal_told, told_as, NotDone, ChangesOnlyLogs}
use Rattle.mdbox_base.specs.Words.{IsName}
use Rattle.mdbox_base.specs.declared.progress.Did.TheVariants as did
use Rattle.mdbox_base.specs.declared.progress.Progress.TheVariants as progress
use Rattle.mdbox_base.specs.declared.replies.Refusal.TheVariants as refusal
use Rattle.mdbox_base.specs.declared.replies.Reply.TheVariants as reply
use Rattle.mdbox_base.specs.declared.script.Half.TheVariants as half
use Rattle.store_core.specs.MadeLogs.{KeepsGone}
use Rattle.task_claims.proofs.GoneLemmas.{gone_same}
use Rattle.mail_ops.specs.Changing.{renaming_refusal}
use Rattle.mail_ops.specs.Renaming.{FellRenaming, IsBoxNotRenamed, RenameAnswers, RenameValue, RenamedSo, RenamesOn}
use Rattle.mail_ops.specs.declared.event.NotDone.TheVariants as not_done
use Rattle.mail_ops.specs.declared.task.TaskStage.TheVariants as task_stage
use Rattle.mail_ops.proofs.ChangeCheckLemmas.{renaming_steps}
use Rattle.mail_ops.proofs.DeleteStepLemmas.{stopped_gone, stopped_rest, stopped_uids}
use Rattle.mail_ops.proofs.KeptUidLemmas.{same_keeps}
use Rattle.mail_ops.proofs.OnlyLogsLemmas.{done_keeps, done_not, fell_keeps, idle_keeps, took_spares}
use Rattle.mail_ops.proofs.RenameEventLemmas.{RenameClause, renaming_done, renaming_fell, renaming_refused, renaming_stopped, renaming_unremembered}
use Rattle.mail_ops.proofs.ToldLemmas.{memory_runs, step_runs, why_is}

-- what the step says
pub record RenameKnown {D : Type 0} (name target : List ℕ) (given : Reply) (how : Did) (old new : StoreValue D) (before after : Option History) (began then : Faults) : Type 0 where
  pub does : RenameClause name target old new before after began then how (Some given)
  pub keeps : ChangesOnlyLogs (KeepsRest old new) task_stage.First task_stage.First (progress.Done given) old new before after began then
  pub uids : KeepsUids old new
  pub gone : KeepsGone old new
  pub replies : RenameAnswers name target old new before after given

abbrev KnownBy : {D : Type 0} → (D → Option History) → (D → Faults) → List ℕ → List ℕ → Reply → Did → StoreValue D → StoreValue D → Type 0
KnownBy history faults name target given how old new = RenameKnown name target given how old new (history old.disk) (history new.disk) (faults old.disk) (faults new.disk)

-- the answer of a refusal that stops no store
refused_answer : {D : Type 0} → (name target : List ℕ) (why : Refusal) (store : StoreValue D) (before after : Option History) → (why ≡ refusal.Stopped → ⊥) → (renaming_refusal name target store ≡ Some why) ⊎ ((renaming_refusal name target store ≡ None) × (why ≡ refusal.NoMemory))
    → RenameAnswers name target store store before after (reply.Refused why)
refused_answer name target refusal.Stopped store before after other cause = absurd (other refl)
refused_answer name target why store before after other cause = (refl, cause)

-- it was refused by a check: nothing has changed
known_refused : {D : Type 0} → (name target : List ℕ) (why : Refusal) (store : StoreValue D) (history : Option History) (faults : Faults) → store.stopped ≡ false → renaming_refusal name target store ≡ Some why
    → RenameKnown name target (reply.Refused why) (did.Step half.Whole) store store history history faults faults
known_refused name target why store history faults runs refuses =
    let runs_on : why ≡ refusal.Stopped → ⊥ = step_runs why (renaming_steps name target store why refuses) in record {
      does = renaming_refused name target store history faults why runs refuses;
      keeps = idle_keeps (KeepsRest store store) _ _ _ store history faults runs (λ e. runs_on (why_is why refusal.Stopped e)) refl;
      uids = same_keeps store store refl;
      gone = gone_same store;
      replies = refused_answer name target why store history history runs_on (inl refuses);
    }

-- out of memory
known_unremembered : {D : Type 0} → (name target : List ℕ) (store : StoreValue D) (history : Option History) (faults : Faults) → store.stopped ≡ false → renaming_refusal name target store ≡ None
    → RenameKnown name target (reply.Refused refusal.NoMemory) did.Quiet store store history history faults faults
known_unremembered name target store history faults runs free = record {
  does = renaming_unremembered name target store history faults runs;
  keeps = idle_keeps (KeepsRest store store) _ _ _ store history faults runs (λ e. memory_runs (why_is refusal.NoMemory refusal.Stopped e)) refl;
  uids = same_keeps store store refl;
  gone = gone_same store;
  replies = (refl, inr (free, refl));
}

-- the append failed
known_fell : {D : Type 0} → (name target : List ℕ) (old new : StoreValue D) (before after : Option History) (began then : Faults) → old.stopped ≡ false → FellRenaming name target old new before after began then
    → RenameKnown name target (reply.Refused refusal.Stopped) (did.Broken half.Whole) old new before after began then
known_fell name target old new before after began then ran f = record {
  does = renaming_fell name target old new before after began then ran f;
  keeps = fell_keeps (KeepsRest old new) _ _ old new before after began then ran (ap (λ (s : StoreValue _). s.stopped) f.same) f.fell.change.reads f.fell.change.changes f.fell.rose (stopped_rest old new f.same) f.fell.change.stays;
  uids = stopped_uids old new f.same;
  gone = stopped_gone old new f.same;
  replies = (f.free, f.same);
}

-- it has the name
known_renamed : {D : Type 0} → (name target : List ℕ) (old new : StoreValue D) (before after : Option History) (began then : Faults) → IsStore before old → old.stopped ≡ false → IsName target → RenamedSo name target old new before after began then
    → RenameKnown name target reply.Done (did.Step half.Whole) old new before after began then
known_renamed name target old new before after began then is ran is_name d = record {
  does = renaming_done name target old new before after began then is ran is_name d;
  keeps = done_keeps (KeepsRest old new) _ _ _ old new before after began then ran (ap (λ (s : StoreValue _). s.stopped) d.box.same ∙ ran) done_not d.disk.unfailed rest (took_spares (new.stopped ≡ old.stopped) before after d.disk.change.stays d.mail);
  uids = d.uids;
  gone = d.gone;
  replies = (d.free, d.box, d.mail);
}
  where
    rest : KeepsRest old new
    rest = d.box.same ∙ ap (λ (s : StoreValue _). record old { disk = new.disk; map_log = new.map_log; map = new.map; boxes = s.boxes; drawn = s.drawn; dues = s.dues; stopped = s.stopped }) (sym d.box.same)

-- ---- any event

known_unrenamed : {D : Type 0} → (history : D → Option History) (faults : D → Faults) (name target : List ℕ) (error : NotDone) (old new : StoreValue D) → old.stopped ≡ false → IsBoxNotRenamed name target error old new (history old.disk) (history new.disk) (faults old.disk) (faults new.disk)
    → KnownBy history faults name target (reply.Refused (refusal_told error)) (told_as half.Whole (did.Broken half.Whole) error) old new
known_unrenamed history faults name target (not_done.Refused why) old new ran n = rw n.0 (known_refused name target why old (history old.disk) (faults old.disk) ran n.1)
known_unrenamed history faults name target not_done.NoMemory old new ran n = rw n.0 (known_unremembered name target old (history old.disk) (faults old.disk) ran n.1)
known_unrenamed history faults name target not_done.Stopped old new ran n = known_fell name target old new (history old.disk) (history new.disk) (faults old.disk) (faults new.disk) ran n

known_by : {D : Type 0} → (history : D → Option History) (faults : D → Faults) (name target : List ℕ) (given : Reply) (how : Did) (old new : StoreValue D) → IsStore (history old.disk) old → old.stopped ≡ false → IsName target
    → RenamesOn name target given how old new (history old.disk) (history new.disk) (faults old.disk) (faults new.disk) → KnownBy history faults name target given how old new
known_by history faults name target reply.Done how old new is ran is_name on = rw on.0 (known_renamed name target old new (history old.disk) (history new.disk) (faults old.disk) (faults new.disk) is ran is_name on.1)
known_by history faults name target (reply.Refused why) how old new is ran is_name on = rw (on.2, on.1) (known_unrenamed history faults name target on.0 old new ran on.3)
known_by history faults name target given how old new is ran is_name on = absurd on

-- Of a task that is seen as this.
pub rename_known_by : {D : Type 0} → (history : D → Option History) (faults : D → Faults) (task seen : RenameValue) (given : Reply) (how : Did) (old new : StoreValue D) → task ≡ seen → IsStore (history old.disk) old → old.stopped ≡ false → IsName task.target
    → RenamesOn task.name task.target given how old new (history old.disk) (history new.disk) (faults old.disk) (faults new.disk) → KnownBy history faults seen.name seen.target given how old new
rename_known_by history faults task seen given how old new same is ran is_name on = subst (λ (v : RenameValue). KnownBy history faults v.name v.target given how old new) same (known_by history faults task.name task.target given how old new is ran is_name on)

-- Of one whose store was stopped.
pub rename_stopped : {D : Type 0} → (task seen : RenameValue) (store : StoreValue D) (history : Option History) (faults : Faults) → task ≡ seen → store.stopped ≡ true → RenameClause seen.name seen.target store store history history faults faults did.Quiet (Some (reply.Refused refusal.Stopped))
rename_stopped task seen store history faults same stopped =
    subst (λ (v : RenameValue). RenameClause v.name v.target store store history history faults faults did.Quiet (Some (reply.Refused refusal.Stopped))) same (renaming_stopped task.name task.target store history faults stopped)
