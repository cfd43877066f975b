-- What the step of a move says, by its stage.
use Rattle.mail_ops.proofs.Common.{◌≡◌, ℕ, true, false, List, Option, Some, refl, sym, subst, inl, inr, ◌⊎◌, History, Faults, Uid, Did, Progress, IsStore, StoreValue, IsKept, copy_refusal, ◌<◌, IsReadyToMove, MovesOn, MoveStage}
use Rattle.mdbox_base.specs.declared.progress.Did.TheVariants as did
use Rattle.mdbox_base.specs.declared.progress.Progress.TheVariants as progress
use Rattle.mdbox_base.specs.declared.replies.Refusal.TheVariants as refusal
use Rattle.mdbox_base.specs.declared.replies.Reply.TheVariants as reply
use Rattle.mdbox_base.specs.declared.requests.Request.TheVariants as request
use Rattle.mdbox_base.specs.declared.script.Half.TheVariants as half
use Rattle.std.proofs.Common.{◌^◌}
use Rattle.mail_ops.specs.Copying.{IsStillNamed}
use Rattle.mail_ops.specs.Moving.{MoveValue, IsAtMove}
use Rattle.mail_ops.specs.declared.moving.MoveStage.TheVariants as stage
use Rattle.mail_ops.proofs.CopyFirstLemmas.{CopyingClause, raise_stopped}
use Rattle.mail_ops.proofs.CopyLastLemmas.{add_stopped, add_refused, add_unremembered, again_stopped, back_stopped, beginning_again_kept, holding_kept, giving_back_kept, to_raise_kept}
use Rattle.mail_ops.proofs.MoveEventLemmas.{removal_stopped, lowering_stopped, copied_kept, moved_kept}
use Rattle.mail_ops.proofs.MoveKnownLemmas.{MoveKnown, known_raised, known_refused, known_added, known_unadded, known_elsewhere, known_again, known_not_again, known_back, known_given, known_ungiven, known_removed, known_gone, known_broken, known_lowered, known_unlowered}
use Rattle.mail_ops.proofs.MovePartLemmas.{move_copies}

-- ---- any event

abbrev KnownBy : {D : Type 0} → (D → Option History) → (D → Faults) → List ℕ → Uid → List ℕ → MoveStage → MoveStage → Progress → Did → StoreValue D → StoreValue D → Type 0
KnownBy history faults name uid target now next answer how old new = MoveKnown name uid target now next answer how old new (history old.disk) (history new.disk) (faults old.disk) (faults new.disk)

known_by : {D : Type 0} → (history : D → Option History) (faults : D → Faults) (name : List ℕ) (uid : Uid) (target : List ℕ) (now next : MoveStage) (answer : Progress) (how : Did) (old new : StoreValue D) → IsStore (history old.disk) old → old.stopped ≡ false → old.map_log.end < 2 ^ 64 → IsReadyToMove name uid now old
    → MovesOn name uid target now next answer how old new (history old.disk) (history new.disk) (faults old.disk) (faults new.disk) → KnownBy history faults name uid target now next answer how old new
known_by history faults name uid target stage.First (stage.Adding held source) progress.More how old new is ran bounded ready on = rw on.0 (known_raised name uid target held source old new (history old.disk) (history new.disk) (faults old.disk) (faults new.disk) is ran on.1)
known_by history faults name uid target stage.First stage.First (progress.Done (reply.Refused why)) how old new is ran bounded ready on = rw (on.2, on.1) (known_refused history faults name uid target on.0 old new ran on.3)
known_by history faults name uid target (stage.Adding held source) (stage.Removing still copied from) progress.More how old new is ran bounded ready on = rw (on.1, on.0, on.3) (known_added name uid target held source copied old new (history old.disk) (history new.disk) (faults old.disk) (faults new.disk) is ran ready on.2)
known_by history faults name uid target (stage.Adding held source) (stage.Adding still same) (progress.Done (reply.Refused why)) how old new is ran bounded ready on = rw (on.2, on.1, on.0, on.4) (known_unadded name uid target held source old new (history old.disk) (history new.disk) (faults old.disk) (faults new.disk) is ran ready on.3)
known_by history faults name uid target (stage.Adding held source) (stage.GivingBack still why) progress.More how old new is ran bounded ready on = rw (on.0, on.1) (by_cause on.2)
  where
    by_cause : ((how ≡ did.Step half.CopyHalf) × (copy_refusal name uid.0 target old ≡ Some why)) ⊎ ((how ≡ did.Quiet) × (why ≡ refusal.NoMemory) × IsStillNamed name uid.0 target source.0 old) → KnownBy history faults name uid target (stage.Adding held source) (stage.GivingBack held why) progress.More how old old
    by_cause (inl e) = rw e.0 (known_back name uid target held source why (did.Step half.CopyHalf) old (history old.disk) (faults old.disk) ran ready (inl e.1) (add_refused (request.Move name uid target) name uid target half.CopyHalf held source.0 old (history old.disk) (faults old.disk) why (move_copies name uid target) ran e.1))
    by_cause (inr e) = rw (e.0, e.1) (known_back name uid target held source refusal.NoMemory did.Quiet old (history old.disk) (faults old.disk) ran ready (inr refl) (add_unremembered (request.Move name uid target) name uid target half.CopyHalf held source.0 old (history old.disk) (faults old.disk) (move_copies name uid target) ran e.2.named))
known_by history faults name uid target (stage.Adding held source) (stage.BeginningAgain still) progress.More how old new is ran bounded ready on = rw (on.1, on.0, on.2) (known_elsewhere name uid target held source old (history old.disk) (faults old.disk) ran ready on.3)
known_by history faults name uid target (stage.BeginningAgain held) stage.First progress.More how old new is ran bounded ready on = rw on.0 (known_again name uid target held old new (history old.disk) (history new.disk) (faults old.disk) (faults new.disk) ran bounded ready on.1)
known_by history faults name uid target (stage.BeginningAgain held) (stage.BeginningAgain still) (progress.Done (reply.Refused why)) how old new is ran bounded ready on = rw (on.2, on.1, on.0) (known_not_again name uid target held old new (history old.disk) (history new.disk) (faults old.disk) (faults new.disk) ran ready on.3)
known_by history faults name uid target (stage.GivingBack held why) stage.First (progress.Done (reply.Refused given)) how old new is ran bounded ready on = rw (on.1, on.0) (known_given name uid target held why old new (history old.disk) (history new.disk) (faults old.disk) (faults new.disk) ran ready ready.source on.2)
known_by history faults name uid target (stage.GivingBack held why) (stage.GivingBack still cause) (progress.Done (reply.Refused given)) how old new is ran bounded ready on = rw (on.3, on.2, on.1, on.0) (known_ungiven name uid target held why old new (history old.disk) (history new.disk) (faults old.disk) (faults new.disk) ran ready on.4)
known_by history faults name uid target (stage.Removing held copied source) (stage.Owing owed same) progress.More how old new is ran bounded ready on = rw (on.2, on.1, on.0) (known_removed name uid target held copied source old new (history old.disk) (history new.disk) (faults old.disk) (faults new.disk) is ran ready on.3)
known_by history faults name uid target (stage.Removing held copied source) stage.First (progress.Done (reply.Moved given gone)) how old new is ran bounded ready on = rw (on.2, on.1, on.0, on.3) (known_gone name uid target held copied source old (history old.disk) (faults old.disk) ran ready on.4)
known_by history faults name uid target (stage.Removing held copied source) (stage.Removing still same from) (progress.Done (reply.Refused why)) how old new is ran bounded ready on = rw (on.3, on.2, on.1, on.0, on.5) (known_broken name uid target held copied source old new (history old.disk) (history new.disk) (faults old.disk) (faults new.disk) is ran ready on.4)
known_by history faults name uid target (stage.Owing owed copied) stage.First (progress.Done (reply.Moved given gone)) how old new is ran bounded ready on = rw (on.2, on.1, on.0) (known_lowered name uid target owed copied old new (history old.disk) (history new.disk) (faults old.disk) (faults new.disk) ran ready on.3)
known_by history faults name uid target (stage.Owing owed copied) (stage.Owing still same) (progress.Done (reply.Refused why)) how old new is ran bounded ready on = rw (on.3, on.2, on.1, on.0) (known_unlowered name uid target owed copied old new (history old.disk) (history new.disk) (faults old.disk) (faults new.disk) ran ready on.4)
known_by history faults name uid target now next answer how old new is ran bounded ready on = absurd on

-- Of a task that is seen as this.
pub move_known_by : {D : Type 0} → (history : D → Option History) (faults : D → Faults) (task seen : MoveValue) (now next : MoveStage) (answer : Progress) (how : Did) (old new : StoreValue D) → task ≡ seen → task.stage ≡ now → IsStore (history old.disk) old → old.stopped ≡ false → old.map_log.end < 2 ^ 64
    → IsReadyToMove task.name task.uid now old → MovesOn task.name task.uid task.target now next answer how old new (history old.disk) (history new.disk) (faults old.disk) (faults new.disk)
    → KnownBy history faults seen.name seen.uid seen.target seen.stage next answer how old new
move_known_by history faults task seen now next answer how old new same at is ran bounded ready on =
    subst (λ (v : MoveValue). KnownBy history faults v.name v.uid v.target v.stage next answer how old new) same
    (subst (λ (s : MoveStage). KnownBy history faults task.name task.uid task.target s next answer how old new) (sym at) (known_by history faults task.name task.uid task.target now next answer how old new is ran bounded ready on))

pub move_ready : {D : Type 0} → (task seen : MoveValue) (now : MoveStage) (store : StoreValue D) → task ≡ seen → task.stage ≡ now → IsReadyToMove seen.name seen.uid seen.stage store → IsReadyToMove task.name task.uid now store
move_ready task seen now store same at ready =
    subst (λ (s : MoveStage). IsReadyToMove task.name task.uid s store) at (subst (λ (v : MoveValue). IsReadyToMove v.name v.uid v.stage store) (sym same) ready)

-- Of one whose store was stopped.
stopped_at : {D : Type 0} → (name : List ℕ) (uid : Uid) (target : List ℕ) (now : MoveStage) (store : StoreValue D) (history : Option History) (faults : Faults) → store.stopped ≡ true
    → CopyingClause (request.Move name uid target) (IsAtMove uid now) (IsAtMove uid now) store store history history faults faults did.Quiet (Some (reply.Refused refusal.Stopped))
stopped_at name uid target stage.First store history faults stopped = raise_stopped (request.Move name uid target) name uid target half.CopyHalf (IsAtMove uid stage.First) store history faults (move_copies name uid target) stopped
stopped_at name uid target (stage.Adding held source) store history faults stopped = add_stopped (request.Move name uid target) name uid target half.CopyHalf held source.0 (IsAtMove uid (stage.Adding held source)) store history faults (move_copies name uid target) stopped
stopped_at name uid target (stage.BeginningAgain held) store history faults stopped = again_stopped (request.Move name uid target) name uid target half.CopyHalf held (IsAtMove uid (stage.BeginningAgain held)) store history faults (move_copies name uid target) stopped
stopped_at name uid target (stage.GivingBack held why) store history faults stopped = back_stopped (request.Move name uid target) name uid target half.CopyHalf held why (IsAtMove uid (stage.GivingBack held why)) store history faults (move_copies name uid target) stopped
stopped_at name uid target (stage.Removing held copied source) store history faults stopped = removal_stopped name uid target held copied source.0 (IsAtMove uid (stage.Removing held copied source)) store history faults stopped
stopped_at name uid target (stage.Owing owed copied) store history faults stopped = lowering_stopped name uid target owed copied (IsAtMove uid (stage.Owing owed copied)) store history faults stopped

pub move_stopped : {D : Type 0} → (task seen : MoveValue) (store : StoreValue D) (history : Option History) (faults : Faults) → task ≡ seen → store.stopped ≡ true
    → CopyingClause (request.Move seen.name seen.uid seen.target) (IsAtMove seen.uid seen.stage) (IsAtMove seen.uid task.stage) store store history history faults faults did.Quiet (Some (reply.Refused refusal.Stopped))
move_stopped task seen store history faults same stopped =
    subst (λ (v : MoveValue). CopyingClause (request.Move v.name v.uid v.target) (IsAtMove v.uid v.stage) (IsAtMove v.uid task.stage) store store history history faults faults did.Quiet (Some (reply.Refused refusal.Stopped))) same (stopped_at task.name task.uid task.target task.stage store history faults stopped)

-- ---- as other requests go on

pub move_kept : (uid : Uid) (now : MoveStage) → IsKept (IsAtMove uid now)
move_kept uid stage.First = to_raise_kept
move_kept uid (stage.Adding held source) = holding_kept held source.0
move_kept uid (stage.BeginningAgain held) = beginning_again_kept held
move_kept uid (stage.GivingBack held why) = giving_back_kept held why
move_kept uid (stage.Removing held copied source) = copied_kept held copied source.0
move_kept uid (stage.Owing owed copied) = moved_kept uid owed copied
