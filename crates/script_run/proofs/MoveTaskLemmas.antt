-- A move alone: what its task knows from one event to the next.
use Rattle.std.specs.Prelude.{◌≡◌, ◌⊎◌, ℕ, false, Bool, List, Option, Some, None}
use Rattle.std.proofs.Common.{refl, sym, ◌∙◌, ap, subst, inl, inr}
use Rattle.disk_model.specs.Disk.{History, IsIdle}
use Rattle.mdbox_base.specs.declared.ids.MapUid.{MapUid}
use Rattle.mdbox_base.specs.declared.ids.Uid.{Uid}
use Rattle.mdbox_base.specs.declared.replies.Refusal.{Refusal}
use Rattle.mdbox_base.specs.declared.replies.Refusal.TheVariants as refusal
use Rattle.mdbox_base.specs.declared.replies.Reply.{Reply}
use Rattle.mdbox_base.specs.declared.replies.Reply.TheVariants as reply
use Rattle.mdbox_base.specs.declared.requests.Request.TheVariants as request
use Rattle.model_meaning.specs.BoxMeaning.{BoxMeaning, LogRow}
use Rattle.task_steps.specs.Step.{ended_by}
use Rattle.task_steps.proofs.OneEventLemmas.{not_true}
use Rattle.store_core.specs.Value.{StoreValue, list_named}
use Rattle.mail_ops.specs.Copying.{CopyPlace, IsRaiseRefusal, MayBeRaised, raising_of}
use Rattle.mail_ops.specs.Moving.{MoveAnswers}
use Rattle.mail_ops.specs.Requests.{IsOpsRequest}
use Rattle.mail_ops.specs.declared.moving.MoveStage.{MoveStage}
use Rattle.mail_ops.specs.declared.moving.MoveStage.TheVariants as move_stage
use Rattle.lane_tasks.specs.Clause.{StaysOfRequest, TellsStore, progress_by}
use Rattle.lane_tasks.specs.Tasks.{BeginsTask}
use Rattle.lane_tasks.specs.declared.task.Task.{Task}
use Rattle.lane_tasks.specs.declared.task.Task.TheVariants as task
use Rattle.lane_tasks.proofs.StepLemmas.{ops_asked}
use Rattle.script_run.specs.One.{IsMoveAnswer, IsMovedAs}
use Rattle.script_run.proofs.CopyTaskLemmas.{CauseIn, GoesOrEnds, HoldsFrom, HoldsRaised, IsRaiseTold, done_raise, ends_raise, first_raise, given_back, goes_raise, may_cause, named_kept, only_memory, raise_cause, raised_first, short_raise, still_named, stopped_raise}
use Rattle.script_run.proofs.OneTaskLemmas.{KeepsAlone}

-- ---- its replies

abbrev pub MovesIn : {D : Type 0} → List ℕ → ℕ → List ℕ → StoreValue D → Reply → Type 0
MovesIn name uid target s given = IsMoveAnswer (CauseIn name uid target s) (list_named s target) given

may_move : {D : Type 0} → (name : List ℕ) (uid : ℕ) (target : List ℕ) (s : StoreValue D) (given : Reply) → MayBeRaised name uid target s → IsMovedAs (list_named s target) given ⊎ ((given ≡ reply.Refused refusal.NoMemory) ⊎ (given ≡ reply.Refused refusal.Stopped)) → IsMoveAnswer (CauseIn name uid target s) (list_named s target) given
may_move name uid target s given may is = subst (λ (o : Option Refusal). IsMoveAnswer o (list_named s target) given) (sym (may_cause name uid target s may)) is

raise_moves : {D : Type 0} → (name : List ℕ) (uid : ℕ) (target : List ℕ) (s : StoreValue D) (why : Refusal) → IsRaiseRefusal name uid target s why → IsMoveAnswer (CauseIn name uid target s) (list_named s target) (reply.Refused why)
raise_moves name uid target s why e = subst (λ (o : Option Refusal). IsMoveAnswer o (list_named s target) (reply.Refused why)) (sym (raise_cause name uid target s why e)) refl

-- ---- event after event

-- the message could be copied, and this was the target's next UID
pub record WasNext {D : Type 0} (name : List ℕ) (uid : ℕ) (target : List ℕ) (copied : Uid) (s : StoreValue D) : Type 0 where
  pub may : MayBeRaised name uid target s
  pub m : BoxMeaning
  pub named : list_named s target ≡ Some m
  pub next_is : copied.0 ≡ m.next

was_next : {D : Type 0} → (name : List ℕ) (uid : ℕ) (target : List ℕ) (held : MapUid) (copied : Uid) (row : LogRow) (number : ℕ) (s old : StoreValue D) → HoldsRaised name uid target held s old → CopyPlace name uid target old row number copied.0 → WasNext name uid target copied s
was_next name uid target held copied row number s old k at = record { may = k.may; m = at.m; named = sym (named_kept target (raising_of held) s old k.raised) ∙ at.to.named; next_is = at.next_is }

abbrev AtMove : {D : Type 0} → List ℕ → Uid → List ℕ → StoreValue D → Option History → MoveStage → StoreValue D → Option History → Type 0
AtMove name uid target s mid move_stage.First store history = (store ≡ s) × (history ≡ mid)
AtMove name uid target s mid (move_stage.Adding held source) store history = HoldsFrom name uid.0 target held source.0 s store
AtMove name uid target s mid (move_stage.BeginningAgain held) store history = ⊥
AtMove name uid target s mid (move_stage.GivingBack held why) store history = HoldsRaised name uid.0 target held s store × (why ≡ refusal.NoMemory)
AtMove name uid target s mid (move_stage.Removing held copied source) store history = WasNext name uid.0 target copied s
AtMove name uid target s mid (move_stage.Owing owed copied) store history = WasNext name uid.0 target copied s

abbrev pub StandsMove : {D : Type 0} → List ℕ → Uid → List ℕ → StoreValue D → Option History → Task → StoreValue D → Option History → Type 0
StandsMove name uid target s mid (task.Move t) store history = (t.name ≡ name) × (t.uid ≡ uid) × (t.target ≡ target) × (store.stopped ≡ false) × AtMove name uid target s mid t.stage store history
StandsMove name uid target s mid (task.Ops t) store history = request.Move name uid target ≡ t.request
StandsMove name uid target s mid other store history = ⊥

abbrev pub IsMoveTold : {D : Type 0} → List ℕ → Uid → List ℕ → StoreValue D → Option History → Reply → StoreValue D → Option History → Type 0
IsMoveTold name uid target s mid = IsRaiseTold (MovesIn name uid.0 target s) s mid

-- it is moved
done_move : {D : Type 0} → (name : List ℕ) (uid : Uid) (target : List ℕ) (s : StoreValue D) (mid : Option History) (copied given : Uid) (gone : Bool) (store : StoreValue D) (history : Option History) → WasNext name uid.0 target copied s → given ≡ copied → IsMoveTold name uid target s mid (reply.Moved given gone) store history
done_move name uid target s mid copied given gone store history w is =
    done_raise (MovesIn name uid.0 target s) s mid (reply.Moved given gone) store history (may_move name uid.0 target s (reply.Moved given gone) w.may (inl (w.m, given, gone, w.named, ap (λ (u : Uid). u.0) is ∙ w.next_is, refl)))
    (λ why e. let k : reply.Moved given gone ≡ reply.Refused why = e in cc k)

-- it was stopped
stopped_move : {D : Type 0} → (name : List ℕ) (uid : Uid) (target : List ℕ) (s : StoreValue D) (mid : Option History) (why : Refusal) (store : StoreValue D) (history : Option History) → MayBeRaised name uid.0 target s → why ≡ refusal.Stopped → IsMoveTold name uid target s mid (reply.Refused why) store history
stopped_move name uid target s mid why store history may is = stopped_raise (MovesIn name uid.0 target s) s mid why store history (λ e. may_move name uid.0 target s (reply.Refused why) may (inr (inr e))) is

move_at : {D : Type 0} → (name : List ℕ) (uid : Uid) (target : List ℕ) (s : StoreValue D) (mid : Option History) (now next : MoveStage) (old new : StoreValue D) (before after : Option History) (ended : Option Reply) → AtMove name uid target s mid now old before → MoveAnswers name uid target now old new next (progress_by ended) → (new ≡ old → IsIdle before after)
    → GoesOrEnds (AtMove name uid target s mid next new after) (MovesIn name uid.0 target s) s mid new after ended
move_at name uid target s mid move_stage.First (move_stage.Adding held source) old new before after None at a same =
    goes_raise _ (MovesIn name uid.0 target s) s mid new after (raised_first name uid.0 target held source.0 s old new at.0 (record { row = a.0; number = a.1; next = a.2; at = a.3; few = a.5 }) a.6 a.7)
move_at name uid target s mid move_stage.First move_stage.First old new before after (Some (reply.Refused why)) at a same =
    ends_raise _ (MovesIn name uid.0 target s) s mid new after (reply.Refused why)
    (first_raise (MovesIn name uid.0 target s) name uid target s mid why new before after (raise_moves name uid.0 target s why) (λ may is. may_move name uid.0 target s (reply.Refused why) may (inr is)) at.1 (λ back. same (back ∙ sym at.0))
    (subst (λ (v : StoreValue _). MoveAnswers name uid target move_stage.First v new move_stage.First (progress_by (Some (reply.Refused why)))) at.0 a))
move_at name uid target s mid (move_stage.Adding held source) (move_stage.Removing still copied from) old new before after None at a same =
    goes_raise _ (MovesIn name uid.0 target s) s mid new after (was_next name uid.0 target held copied a.1.0 a.1.1 s old at.0 a.1.2)
move_at name uid target s mid (move_stage.Adding held source) (move_stage.Adding still from) old new before after (Some (reply.Refused why)) at a same =
    ends_raise _ (MovesIn name uid.0 target s) s mid new after (reply.Refused why) (stopped_move name uid target s mid why new after at.0.may a.1)
move_at name uid target s mid (move_stage.Adding held source) (move_stage.GivingBack still why) old new before after None at a same =
    goes_raise _ (MovesIn name uid.0 target s) s mid new after
    (subst (λ (v : StoreValue _). HoldsRaised name uid.0 target still s v) (sym a.1) (subst (λ (h : MapUid). HoldsRaised name uid.0 target h s old) (sym a.0) at.0), only_memory name uid.0 target held s old why at.0 a.2)
move_at name uid target s mid (move_stage.Adding held source) (move_stage.BeginningAgain still) old new before after None at a same = absurd (still_named name uid.0 target held source.0 s old at a.2)
move_at name uid target s mid (move_stage.BeginningAgain held) next old new before after ended at a same = absurd at
move_at name uid target s mid (move_stage.GivingBack held why) move_stage.First old new before after (Some (reply.Refused given)) at a same =
    ends_raise _ (MovesIn name uid.0 target s) s mid new after (reply.Refused given)
    (short_raise (MovesIn name uid.0 target s) s mid given new after (λ e. may_move name uid.0 target s (reply.Refused given) at.0.may (inr (inl e))) (a.0 ∙ at.1) (given_back held s old new at.0.raised a.1))
move_at name uid target s mid (move_stage.GivingBack held why) (move_stage.GivingBack still cause) old new before after (Some (reply.Refused given)) at a same =
    ends_raise _ (MovesIn name uid.0 target s) s mid new after (reply.Refused given) (stopped_move name uid target s mid given new after at.0.may a.2)
move_at name uid target s mid (move_stage.Removing held copied source) (move_stage.Owing owed same_uid) old new before after None at a same =
    goes_raise _ (MovesIn name uid.0 target s) s mid new after (subst (λ (u : Uid). WasNext name uid.0 target u s) (sym a.1) at)
move_at name uid target s mid (move_stage.Removing held copied source) move_stage.First old new before after (Some (reply.Moved given gone)) at a same =
    ends_raise _ (MovesIn name uid.0 target s) s mid new after (reply.Moved given gone) (done_move name uid target s mid copied given gone new after at a.0)
move_at name uid target s mid (move_stage.Removing held copied source) (move_stage.Removing still same_uid from) old new before after (Some (reply.Refused why)) at a same =
    ends_raise _ (MovesIn name uid.0 target s) s mid new after (reply.Refused why) (stopped_move name uid target s mid why new after at.may a.2)
move_at name uid target s mid (move_stage.Owing owed copied) move_stage.First old new before after (Some (reply.Moved given gone)) at a same =
    ends_raise _ (MovesIn name uid.0 target s) s mid new after (reply.Moved given gone) (done_move name uid target s mid copied given gone new after at a.0)
move_at name uid target s mid (move_stage.Owing owed copied) (move_stage.Owing still same_uid) old new before after (Some (reply.Refused why)) at a same =
    ends_raise _ (MovesIn name uid.0 target s) s mid new after (reply.Refused why) (stopped_move name uid target s mid why new after at.may a.2)
move_at name uid target s mid now next old new before after ended at a same = absurd a

move_on : {D : Type 0} → (name : List ℕ) (uid : Uid) (target : List ℕ) (s : StoreValue D) (mid : Option History) (t next : Task) (old new : StoreValue D) (before after : Option History) (ended : Option Reply) → StandsMove name uid target s mid t old before → StaysOfRequest t next → TellsStore t next old new before after ended → (new ≡ old → IsIdle before after) → (ended ≡ None → new.stopped ≡ false)
    → (ended ≡ None → StandsMove name uid target s mid next new after) × ((given : Reply) → ended ≡ Some given → IsMoveTold name uid target s mid given new after)
move_on name uid target s mid (task.Move t) (task.Move next) old new before after ended is kind tells same runs =
    let a = subst (λ (n : List ℕ). MoveAnswers n uid target t.stage old new next.stage (progress_by ended)) is.0 (subst (λ (u : Uid). MoveAnswers t.name u target t.stage old new next.stage (progress_by ended)) is.1
    (subst (λ (n : List ℕ). MoveAnswers t.name t.uid n t.stage old new next.stage (progress_by ended)) is.2 (tells is.3))) in
    let k = move_at name uid target s mid t.stage next.stage old new before after ended is.4 a same in
    (λ more. (kind.0 ∙ is.0, kind.1 ∙ is.1, kind.2 ∙ is.2, runs more, k.0 more), k.1)
move_on name uid target s mid (task.Ops t) next old new before after ended is kind tells same runs = absurd (subst IsOpsRequest (sym is) (ops_asked t.request old new tells.0 tells.2))
move_on name uid target s mid (task.Move t) next old new before after ended is kind tells same runs = absurd kind
move_on name uid target s mid t next old new before after ended is kind tells same runs = absurd is

pub keeps_move : {D : Type 0} → (name : List ℕ) (uid : Uid) (target : List ℕ) (s : StoreValue D) (mid : Option History) → KeepsAlone (StandsMove name uid target s mid) (IsMoveTold name uid target s mid)
keeps_move name uid target s mid queued next event old new before after first second is goes =
    move_on name uid target s mid queued.task next old new before after (ended_by event.ended) is goes.keeps.request goes.keeps.tells (λ back. goes.keeps.same (ap (λ (v : StoreValue _). v.disk) back))
    (λ more. not_true new.stopped (λ stopped. let k : None ≡ Some (reply.Refused refusal.Stopped) = sym more ∙ ap ended_by (goes.stopped stopped) in cc k))

pub begun_move : {D : Type 0} → (name : List ℕ) (uid : Uid) (target : List ℕ) (s : StoreValue D) (mid : Option History) → s.stopped ≡ false → (t : Task) → BeginsTask (request.Move name uid target) t → StandsMove name uid target s mid t s mid
begun_move name uid target s mid running (task.Move t) b =
    let k : request.Move name uid target ≡ request.Move t.name t.uid t.target = b.is_of in
    let names : name ≡ t.name = cc k in
    let uids : uid ≡ t.uid = cc k in
    let targets : target ≡ t.target = cc k in
    (sym names, sym uids, sym targets, running, subst (λ (now : MoveStage). AtMove name uid target s mid now s mid) (sym b.at) (refl, refl))
begun_move name uid target s mid running (task.Ops t) b = b.is_of
begun_move name uid target s mid running (task.Deliver t) b = absurd b.is_of
begun_move name uid target s mid running t b = absurd (cc b.is_of)
