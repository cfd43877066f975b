-- A deletion, a renaming or a setting of keywords alone: what its task knows from one event to the next.
use Rattle.std.specs.Prelude.{◌≡◌, ◌⊎◌, ℕ, false, List, Option, Some, None}
use Rattle.std.proofs.Common.{refl, sym, ◌∙◌, ap, subst, inl, inr}
use Rattle.disk_model.specs.Disk.{History, IsIdle}
use Rattle.mdbox_base.specs.declared.ids.Uid.{Uid}
use Rattle.mdbox_base.specs.declared.replies.Refusal.{Refusal}
use Rattle.mdbox_base.specs.declared.replies.Refusal.TheVariants as refusal
use Rattle.mdbox_base.specs.declared.replies.Reply.{Reply}
use Rattle.mdbox_base.specs.declared.replies.Reply.TheVariants as reply
use Rattle.mdbox_base.specs.declared.requests.Request.TheVariants as request
use Rattle.task_steps.specs.Step.{ended_by}
use Rattle.task_steps.proofs.OneEventLemmas.{not_true}
use Rattle.store_core.specs.Value.{StoreValue}
use Rattle.mail_ops.specs.Changing.{deleting_refusal, renaming_refusal}
use Rattle.mail_ops.specs.Deleting.{DeleteAnswers}
use Rattle.mail_ops.specs.Flagging.{flag_refusal}
use Rattle.mail_ops.specs.Renaming.{RenameAnswers}
use Rattle.mail_ops.specs.Requests.{IsOpsRequest}
use Rattle.mail_ops.specs.Wording.{WordsAnswers}
use Rattle.mail_ops.specs.declared.deleting.DeleteStage.{DeleteStage}
use Rattle.mail_ops.specs.declared.deleting.DeleteStage.TheVariants as delete_stage
use Rattle.lane_tasks.specs.Clause.{StaysOfRequest, TellsStore, progress_by}
use Rattle.lane_tasks.specs.Tasks.{BeginsTask, IsTaskOf}
use Rattle.lane_tasks.specs.declared.task.Task.{Task}
use Rattle.lane_tasks.specs.declared.task.Task.TheVariants as task
use Rattle.lane_tasks.proofs.StepLemmas.{ops_asked}
use Rattle.script_run.proofs.OneTaskLemmas.{IsChangeTold, KeepsAlone, missing_answers, one_refusal, some_reply, tells_ops, there_answers, told_so}

-- ---- what is replied

-- it was refused by a check, or there was no memory, and nothing has changed
unchanged_told : {D : Type 0} → (cause : Option Refusal) (mid before after : Option History) (why : Refusal) (old new : StoreValue D) → before ≡ mid → (new ≡ old) × ((cause ≡ Some why) ⊎ ((cause ≡ None) × (why ≡ refusal.NoMemory))) → (new ≡ old → IsIdle before after) → IsChangeTold cause mid (reply.Refused why) after
unchanged_told cause mid before after why old new was (same, by) idle = record {
  given_is = elim by [ inl some ↦ missing_answers cause why some | inr none ↦ there_answers cause (reply.Refused why) none.0 (inr (inl (ap reply.Refused none.1))) ];
  unchanged = λ other e running. subst (λ (h : Option History). IsIdle h after) was (idle same);
}

-- a change of the disk failed
stopped_told : (cause : Option Refusal) (mid after : Option History) (why : Refusal) → cause ≡ None → why ≡ refusal.Stopped → IsChangeTold cause mid (reply.Refused why) after
stopped_told cause mid after why none is = record {
  given_is = there_answers cause (reply.Refused why) none (inr (inr (ap reply.Refused is)));
  unchanged = λ other e running. absurd (running (sym (one_refusal why other e) ∙ is));
}

-- it is done
done_told : (cause : Option Refusal) (mid after : Option History) → cause ≡ None → IsChangeTold cause mid reply.Done after
done_told cause mid after none = record { given_is = there_answers cause reply.Done none (inl refl); unchanged = λ why e. absurd (let k : reply.Done ≡ reply.Refused why = e in cc k) }

-- ---- a deletion

-- nothing has happened, or nothing refused it
abbrev AtDelete : {D : Type 0} → List ℕ → StoreValue D → Option History → DeleteStage → StoreValue D → Option History → Type 0
AtDelete name s mid delete_stage.First store history = (store ≡ s) × (history ≡ mid)
AtDelete name s mid (delete_stage.RemovingLog number generation) store history = deleting_refusal name s ≡ None

abbrev pub StandsDelete : {D : Type 0} → List ℕ → StoreValue D → Option History → Task → StoreValue D → Option History → Type 0
StandsDelete name s mid (task.Delete t) store history = (t.name ≡ name) × (store.stopped ≡ false) × AtDelete name s mid t.stage store history
StandsDelete name s mid (task.Ops t) store history = request.Delete name ≡ t.request
StandsDelete name s mid other store history = ⊥

abbrev DeleteOn : {D : Type 0} → Type 0 → List ℕ → StoreValue D → Option History → Option History → Option Reply → Type 0
DeleteOn Stands name s mid after ended = (ended ≡ None → Stands) × ((given : Reply) → ended ≡ Some given → IsChangeTold (deleting_refusal name s) mid given after)

ends_delete : {D : Type 0} → (Stands : Type 0) (name : List ℕ) (s : StoreValue D) (mid after : Option History) (one : Reply) → IsChangeTold (deleting_refusal name s) mid one after → DeleteOn Stands name s mid after (Some one)
ends_delete Stands name s mid after one told = (λ more. absurd (let k : Some one ≡ None = more in cc k), told_so (deleting_refusal name s) mid after one told)

delete_at : {D : Type 0} → (name : List ℕ) (s : StoreValue D) (mid : Option History) (now next : DeleteStage) (old new : StoreValue D) (before after : Option History) (ended : Option Reply) → AtDelete name s mid now old before → DeleteAnswers name now old new before after next (progress_by ended) → (new ≡ old → IsIdle before after)
    → DeleteOn (AtDelete name s mid next new after) name s mid after ended
delete_at name s mid delete_stage.First (delete_stage.RemovingLog number generation) old new before after None at a same = (
  λ more. subst (λ (v : StoreValue _). deleting_refusal name v ≡ None) at.0 a.0,
  λ given e. absurd (let k : None ≡ Some given = e in cc k),
)
delete_at name s mid delete_stage.First delete_stage.First old new before after (Some (reply.Refused refusal.Stopped)) at a same =
    ends_delete _ name s mid after (reply.Refused refusal.Stopped) (stopped_told (deleting_refusal name s) mid after refusal.Stopped (subst (λ (v : StoreValue _). deleting_refusal name v ≡ None) at.0 a.0) refl)
delete_at name s mid delete_stage.First delete_stage.First old new before after (Some (reply.Refused why)) at a same =
    ends_delete _ name s mid after (reply.Refused why)
    (unchanged_told (deleting_refusal name s) mid before after why old new at.1 (subst (λ (v : StoreValue _). (new ≡ old) × ((deleting_refusal name v ≡ Some why) ⊎ ((deleting_refusal name v ≡ None) × (why ≡ refusal.NoMemory)))) at.0 a) same)
delete_at name s mid (delete_stage.RemovingLog number generation) delete_stage.First old new before after (Some reply.Done) at a same = ends_delete _ name s mid after reply.Done (done_told (deleting_refusal name s) mid after at)
delete_at name s mid (delete_stage.RemovingLog number generation) (delete_stage.RemovingLog still alike) old new before after (Some (reply.Refused why)) at a same =
    ends_delete _ name s mid after (reply.Refused why) (stopped_told (deleting_refusal name s) mid after why at a.2)
delete_at name s mid now next old new before after ended at a same = absurd a

delete_on : {D : Type 0} → (name : List ℕ) (s : StoreValue D) (mid : Option History) (t next : Task) (old new : StoreValue D) (before after : Option History) (ended : Option Reply) → StandsDelete name s mid t old before → StaysOfRequest t next → TellsStore t next old new before after ended → (new ≡ old → IsIdle before after) → (ended ≡ None → new.stopped ≡ false)
    → DeleteOn (StandsDelete name s mid next new after) name s mid after ended
delete_on name s mid (task.Delete t) (task.Delete next) old new before after ended is kind tells same runs =
    let a = subst (λ (n : List ℕ). DeleteAnswers n t.stage old new before after next.stage (progress_by ended)) is.0 (tells is.1) in
    let k = delete_at name s mid t.stage next.stage old new before after ended is.2 a same in
    (λ more. (kind ∙ is.0, runs more, k.0 more), k.1)
delete_on name s mid (task.Ops t) next old new before after ended is kind tells same runs = absurd (subst IsOpsRequest (sym is) (ops_asked t.request old new tells.0 tells.2))
delete_on name s mid (task.Delete t) next old new before after ended is kind tells same runs = absurd kind
delete_on name s mid t next old new before after ended is kind tells same runs = absurd is

pub keeps_delete : {D : Type 0} → (name : List ℕ) (s : StoreValue D) (mid : Option History) → KeepsAlone (StandsDelete name s mid) (λ given store history. IsChangeTold (deleting_refusal name s) mid given history)
keeps_delete name s mid queued next event old new before after first second is goes =
    delete_on name s mid queued.task next old new before after (ended_by event.ended) is goes.keeps.request goes.keeps.tells (λ back. goes.keeps.same (ap (λ (v : StoreValue _). v.disk) back))
    (λ more. not_true new.stopped (λ stopped. let k : None ≡ Some (reply.Refused refusal.Stopped) = sym more ∙ ap ended_by (goes.stopped stopped) in cc k))

pub begun_delete : {D : Type 0} → (name : List ℕ) (s : StoreValue D) (mid : Option History) → s.stopped ≡ false → (t : Task) → BeginsTask (request.Delete name) t → StandsDelete name s mid t s mid
begun_delete name s mid running (task.Delete t) b =
    let k : request.Delete name ≡ request.Delete t.name = b.is_of in
    let names : name ≡ t.name = cc k in
    (sym names, running, subst (λ (now : DeleteStage). AtDelete name s mid now s mid) (sym b.at) (refl, refl))
begun_delete name s mid running (task.Ops t) b = b.is_of
begun_delete name s mid running (task.Deliver t) b = absurd b.is_of
begun_delete name s mid running t b = absurd (cc b.is_of)

-- ---- a renaming, whose only event is its first

abbrev pub StandsRename : {D : Type 0} → List ℕ → List ℕ → StoreValue D → Option History → Task → StoreValue D → Option History → Type 0
StandsRename name target s mid (task.Rename t) store history = (t.name ≡ name) × (t.target ≡ target) × (store.stopped ≡ false) × (store ≡ s) × (history ≡ mid)
StandsRename name target s mid (task.Ops t) store history = request.Rename name target ≡ t.request
StandsRename name target s mid other store history = ⊥

renamed_told : {D : Type 0} → (name target : List ℕ) (s : StoreValue D) (mid : Option History) (new : StoreValue D) (before after : Option History) (given : Reply) → before ≡ mid → RenameAnswers name target s new before after given → (new ≡ s → IsIdle before after) → IsChangeTold (renaming_refusal name target s) mid given after
renamed_told name target s mid new before after reply.Done was a same = done_told (renaming_refusal name target s) mid after a.0
renamed_told name target s mid new before after (reply.Refused refusal.Stopped) was a same = stopped_told (renaming_refusal name target s) mid after refusal.Stopped a.0 refl
renamed_told name target s mid new before after (reply.Refused why) was a same = unchanged_told (renaming_refusal name target s) mid before after why s new was a same
renamed_told name target s mid new before after given was a same = absurd a

rename_on : {D : Type 0} → (name target : List ℕ) (s : StoreValue D) (mid : Option History) (t next : Task) (old new : StoreValue D) (before after : Option History) (ended : Option Reply) → StandsRename name target s mid t old before → TellsStore t next old new before after ended → (new ≡ old → IsIdle before after)
    → (given : Reply) × (ended ≡ Some given) × IsChangeTold (renaming_refusal name target s) mid given after
rename_on name target s mid (task.Rename t) next old new before after ended is tells same =
    let a = tells is.2 in (
      a.0,
      a.1,
      renamed_told name target s mid new before after a.0 is.4
          (subst (λ (v : StoreValue _). RenameAnswers name target v new before after a.0) is.3
          (subst (λ (n : List ℕ). RenameAnswers n target old new before after a.0) is.0 (subst (λ (n : List ℕ). RenameAnswers t.name n old new before after a.0) is.1 a.2)))
          (λ back. same (back ∙ sym is.3)),
    )
rename_on name target s mid (task.Ops t) next old new before after ended is tells same = absurd (subst IsOpsRequest (sym is) (ops_asked t.request old new tells.0 tells.2))
rename_on name target s mid t next old new before after ended is tells same = absurd is

pub keeps_rename : {D : Type 0} → (name target : List ℕ) (s : StoreValue D) (mid : Option History) → KeepsAlone (StandsRename name target s mid) (λ given store history. IsChangeTold (renaming_refusal name target s) mid given history)
keeps_rename name target s mid queued next event old new before after first second is goes =
    let told = rename_on name target s mid queued.task next old new before after (ended_by event.ended) is goes.keeps.tells (λ back. goes.keeps.same (ap (λ (v : StoreValue _). v.disk) back)) in (
      λ more. absurd (let k : None ≡ Some told.0 = sym more ∙ told.1 in cc k),
      λ given e. subst (λ (r : Reply). IsChangeTold (renaming_refusal name target s) mid r after) (some_reply told.0 given (sym told.1 ∙ e)) told.2,
    )

pub begun_rename : {D : Type 0} → (name target : List ℕ) (s : StoreValue D) (mid : Option History) → s.stopped ≡ false → (t : Task) → BeginsTask (request.Rename name target) t → StandsRename name target s mid t s mid
begun_rename name target s mid running (task.Rename t) b =
    let k : request.Rename name target ≡ request.Rename t.name t.target = b.is_of in
    let names : name ≡ t.name = cc k in
    let targets : target ≡ t.target = cc k in
    (sym names, sym targets, running, refl, refl)
begun_rename name target s mid running (task.Ops t) b = b.is_of
begun_rename name target s mid running (task.Deliver t) b = absurd b.is_of
begun_rename name target s mid running t b = absurd (cc b.is_of)

-- ---- a setting of keywords, whose only event is its first

abbrev pub StandsWords : {D : Type 0} → List ℕ → Uid → List (List ℕ) → StoreValue D → Option History → Task → StoreValue D → Option History → Type 0
StandsWords name uid words s mid t store history = IsTaskOf t (request.Keywords name uid words) × (store ≡ s) × (history ≡ mid)

words_answered : {D : Type 0} → (cause : Option Refusal) (mid before after : Option History) (given : Reply) (s new : StoreValue D) → before ≡ mid → WordsAnswers cause s new given → (new ≡ s → IsIdle before after) → IsChangeTold cause mid given after
words_answered (Some why) mid before after given s new was a same = subst (λ (r : Reply). IsChangeTold (Some why) mid r after) (sym a.0) (unchanged_told (Some why) mid before after why s new was (a.1, inl refl) same)
words_answered None mid before after given s new was (inl done) same = subst (λ (r : Reply). IsChangeTold None mid r after) (sym done) (done_told None mid after refl)
words_answered None mid before after given s new was (inr (inl untaken)) same =
    subst (λ (r : Reply). IsChangeTold None mid r after) (sym untaken.0) (unchanged_told None mid before after refusal.NoMemory s new was (untaken.1, inr (refl, refl)) same)
words_answered None mid before after given s new was (inr (inr fell)) same = subst (λ (r : Reply). IsChangeTold None mid r after) (sym fell.0) (stopped_told None mid after refusal.Stopped refl refl)

pub keeps_words : {D : Type 0} → (name : List ℕ) (uid : Uid) (words : List (List ℕ)) (s : StoreValue D) (mid : Option History) → KeepsAlone (StandsWords name uid words s mid) (λ given store history. IsChangeTold (flag_refusal name uid.0 s) mid given history)
keeps_words name uid words s mid queued next event old new before after first second is goes =
    let told = tells_ops queued.task next (request.Keywords name uid words) old new before after (ended_by event.ended) tt is.0 goes.keeps.tells in
    let answers = subst (λ (v : StoreValue _). WordsAnswers (flag_refusal name uid.0 v) v new told.0) is.1 told.2 in (
      λ more. absurd (let k : None ≡ Some told.0 = sym more ∙ told.1 in cc k),
      λ given e.
          subst (λ (r : Reply). IsChangeTold (flag_refusal name uid.0 s) mid r after) (some_reply told.0 given (sym told.1 ∙ e))
          (words_answered (flag_refusal name uid.0 s) mid before after told.0 s new is.2 answers (λ back. goes.keeps.same (ap (λ (v : StoreValue _). v.disk) (back ∙ sym is.1)))),
    )
