-- What the step of a move says of each event.
use Rattle.mail_ops.proofs.Common.{◌≡◌, ◌<◌, ◌+◌, ℕ, Bool, true, false, List, Option, Some, None, refl, sym, subst, arith, inl, inr, ◌⊎◌, History, Faults, BoxNo, MapUid, Uid, Did, Progress, Refusal, due_at, Moves, amounts_in, KeepsRest, IsStore, StoreValue, moves_as, one_due, ended_by, MapTook}
use Rattle.mail_ops.proofs.Common.{MapFell, lowering_of, copy_refusal, RaisesRow, IsRaiseRefusal, IsNotRaised, AddsRow, FellAdding, ChangesOnlyLogs, refusal_told, told_as, IsReadyToMove, NotDone, MoveStage, due_as_before}
use Rattle.mdbox_base.specs.declared.progress.Did.TheVariants as did
use Rattle.mdbox_base.specs.declared.progress.Progress.TheVariants as progress
use Rattle.mdbox_base.specs.declared.replies.Refusal.TheVariants as refusal
use Rattle.mdbox_base.specs.declared.replies.Reply.TheVariants as reply
use Rattle.mdbox_base.specs.declared.requests.Request.TheVariants as request
use Rattle.mdbox_base.specs.declared.script.Half.TheVariants as half
use Rattle.std.proofs.Common.{◌-◌, ◌*◌, ◌^◌}
use Rattle.mail_ops.specs.Copying.{IsNamedElsewhere, MayBeRaised}
use Rattle.mail_ops.specs.Messages.{row_numbered}
use Rattle.mail_ops.specs.Moving.{FellFrom, IsAtMove, move_amounts, move_left, MoveAnswers, RemovesFrom}
use Rattle.mail_ops.specs.Owing.{map_room_left}
use Rattle.mail_ops.specs.declared.event.NotDone.TheVariants as not_done
use Rattle.mail_ops.specs.declared.moving.MoveStage.TheVariants as stage
use Rattle.mail_ops.proofs.CopyFirstLemmas.{CopyingClause, back_runs, raise_done, raise_fell, raise_refused, raise_steps, raise_unremembered}
use Rattle.mail_ops.proofs.CopyLastLemmas.{added_due, add_elsewhere, add_fell, again_fell, back_fell, begun_again, given_back}
use Rattle.mail_ops.proofs.KeptUidLemmas.{addition_left, fallen_keeps, raised_source}
use Rattle.mail_ops.proofs.LoweringLemmas.{ended_moves, held_still, lowered_due, raised_covers, raised_moves}
use Rattle.mail_ops.proofs.MoveEventLemmas.{move_added, move_gone, move_removed, move_broken, move_unlowered, move_lowered}
use Rattle.mail_ops.proofs.MapRoomLemmas.{no_more_left, paid_by_map}
use Rattle.mail_ops.proofs.MovePartLemmas.{move_copies}
use Rattle.mail_ops.proofs.RemovalLemmas.{removal_due}
use Rattle.mail_ops.proofs.OnlyLogsLemmas.{box_fell_keeps, box_took_keeps, idle_keeps, map_fell_keeps, map_took_keeps}
use Rattle.mail_ops.proofs.ToldLemmas.{done_more, memory_runs, more_is, step_runs, why_is}

-- what a step says of an event
pub record MoveKnown {D : Type 0} (name : List ℕ) (uid : Uid) (target : List ℕ) (now next : MoveStage) (answer : Progress) (how : Did) (old new : StoreValue D) (before after : Option History) (began faulted : Faults) : Type 0 where
  pub ready : IsReadyToMove name uid next new
  pub does : CopyingClause (request.Move name uid target) (IsAtMove uid now) (IsAtMove uid next) old new before after began faulted how (ended_by answer)
  pub keeps : ChangesOnlyLogs (KeepsRest old new) now next answer old new before after began faulted
  pub moves : Moves (move_amounts now) (move_amounts next) (amounts_in old) (amounts_in new)
  pub replies : MoveAnswers name uid target now old new next answer
  pub left : answer ≡ progress.More → move_left next + 3 * map_room_left new < move_left now + 3 * map_room_left old

-- ---- answers that are told apart

moved_stopped : (given : Uid) (gone : Bool) → progress.Done (reply.Moved given gone) ≡ progress.Done (reply.Refused refusal.Stopped) → ⊥
moved_stopped given gone e = let k : reply.Moved given gone ≡ reply.Refused refusal.Stopped = cc e in cc k

none_due : {D : Type 0} → (name : List ℕ) (uid : Uid) (store : StoreValue D) → IsReadyToMove name uid stage.First store
none_due name uid store = record { due = λ other. omega arith; source = tt }

-- ---- the first event

pub known_raised : {D : Type 0} → (name : List ℕ) (uid : Uid) (target : List ℕ) (held : MapUid) (source : BoxNo) (old new : StoreValue D) (before after : Option History) (began faulted : Faults) → IsStore before old → old.stopped ≡ false → RaisesRow name uid target held source old new before after began faulted
    → MoveKnown name uid target stage.First (stage.Adding held source) progress.More did.Quiet old new before after began faulted
known_raised name uid target held source old new before after began faulted is ran r = record {
  ready = record {
    due = λ other. raised_covers (due_at other old) (due_at other new) held.0 other (r.took.due other);
    source = raised_source name uid target held source old new before after began faulted r;
  };
  does = raise_done (request.Move name uid target) name uid target half.CopyHalf held source old new before after began faulted (move_copies name uid target) is ran r;
  keeps = map_took_keeps _ _ _ _ old new before after began faulted ran (more_is (reply.Refused refusal.Stopped)) r.took;
  moves = record { due = λ other. raised_moves (due_at other old) (due_at other new) held.0 other (r.took.due other) };
  replies = (r.row, r.number, r.next, r.at, r.holds, r.few, record { indexes = r.took.appends.indexes; mailboxes = r.took.appends.mailboxes; taken = r.took.taken }, r.source_is);
  left = λ e. no_more_left 3 4 old new (omega arith) (let f = r.took.further in omega (arith, f));
}

known_unraised : {D : Type 0} → (name : List ℕ) (uid : Uid) (target : List ℕ) (old new : StoreValue D) (before after : Option History) (began faulted : Faults) → old.stopped ≡ false → MapFell old new before after began faulted → MayBeRaised name uid.0 target old
    → MoveKnown name uid target stage.First stage.First (progress.Done (reply.Refused refusal.Stopped)) did.Failed old new before after began faulted
known_unraised name uid target old new before after began faulted ran f may = record {
  ready = none_due name uid new;
  does = raise_fell (request.Move name uid target) name uid target half.CopyHalf (IsAtMove uid stage.First) old new before after began faulted (move_copies name uid target) ran f;
  keeps = map_fell_keeps _ _ old new before after began faulted ran f;
  moves = moves_as (move_amounts stage.First) (amounts_in old) (amounts_in new) (λ other. due_as_before old new other f.map f.dues);
  replies = inl (refl, f.stopped, may);
  left = λ e. absurd (done_more (reply.Refused refusal.Stopped) e);
}

known_same : {D : Type 0} → (name : List ℕ) (uid : Uid) (target : List ℕ) (why : Refusal) (how : Did) (store : StoreValue D) (history : Option History) (faults : Faults) → store.stopped ≡ false → (why ≡ refusal.Stopped → ⊥) → IsRaiseRefusal name uid.0 target store why ⊎ ((why ≡ refusal.NoMemory) × MayBeRaised name uid.0 target store)
    → CopyingClause (request.Move name uid target) (IsAtMove uid stage.First) (IsAtMove uid stage.First) store store history history faults faults how (Some (reply.Refused why))
    → MoveKnown name uid target stage.First stage.First (progress.Done (reply.Refused why)) how store store history history faults faults
known_same name uid target why how store history faults runs running cause does = record {
  ready = none_due name uid store;
  does = does;
  keeps = idle_keeps (KeepsRest store store) _ _ _ store history faults runs (λ e. running (why_is why refusal.Stopped e)) refl;
  moves = moves_as (move_amounts stage.First) (amounts_in store) (amounts_in store) (λ other. refl);
  replies = inr (refl, cause);
  left = λ e. absurd (done_more (reply.Refused why) e);
}

pub known_refused : {D : Type 0} → (history : D → Option History) (faults : D → Faults) (name : List ℕ) (uid : Uid) (target : List ℕ) (error : NotDone) (old new : StoreValue D) → old.stopped ≡ false → IsNotRaised name uid target error old new (history old.disk) (history new.disk) (faults old.disk) (faults new.disk)
    → MoveKnown name uid target stage.First stage.First (progress.Done (reply.Refused (refusal_told error))) (told_as half.CopyHalf did.Failed error) old new (history old.disk) (history new.disk) (faults old.disk) (faults new.disk)
known_refused history faults name uid target (not_done.Refused why) old new ran r = rw r.0 (known_same name uid target why (did.Step half.CopyHalf) old (history old.disk) (faults old.disk) ran (step_runs why (raise_steps name uid.0 target old why r.1)) (inl r.1) (raise_refused (request.Move name uid target) name uid target half.CopyHalf (IsAtMove uid stage.First) old (history old.disk) (faults old.disk) why (move_copies name uid target) ran r.1))
known_refused history faults name uid target not_done.NoMemory old new ran r = rw r.0 (known_same name uid target refusal.NoMemory did.Quiet old (history old.disk) (faults old.disk) ran memory_runs (inr (refl, r.1)) (raise_unremembered (request.Move name uid target) name uid target half.CopyHalf (IsAtMove uid stage.First) old (history old.disk) (faults old.disk) (move_copies name uid target) ran))
known_refused history faults name uid target not_done.Stopped old new ran r = known_unraised name uid target old new (history old.disk) (history new.disk) (faults old.disk) (faults new.disk) ran r.0 r.1

-- ---- the second event

pub known_added : {D : Type 0} → (name : List ℕ) (uid : Uid) (target : List ℕ) (held : MapUid) (source : BoxNo) (given : Uid) (old new : StoreValue D) (before after : Option History) (began faulted : Faults) → IsStore before old → old.stopped ≡ false → IsReadyToMove name uid (stage.Adding held source) old
    → AddsRow name uid target held source given old new before after began faulted → MoveKnown name uid target (stage.Adding held source) (stage.Removing held given source) progress.More (did.Step half.CopyHalf) old new before after began faulted
known_added name uid target held source given old new before after began faulted is ran ready r = record {
  ready = record { due = λ other. omega arith; source = addition_left name uid target held source given old new before after began faulted r source.0 uid.0 held.0 ready.source };
  does = move_added name uid target held given source old new before after began faulted is ran ready.due r;
  keeps = box_took_keeps _ _ _ _ _ old new before after began faulted ran (more_is (reply.Refused refusal.Stopped)) r.took;
  moves = record { due = λ other. ended_moves (due_at other old) (due_at other new) held.0 other (added_due held given r.row r.at.m old new other r.holds (ready.due other) (r.took.due r.at.m other r.at.to.numbered)) };
  replies = (refl, (r.row, r.number, r.at, r.holds, r.source_is, r.took.taken), refl);
  left = λ e. no_more_left 2 3 old new (omega arith) r.took.appends.end;
}

pub known_unadded : {D : Type 0} → (name : List ℕ) (uid : Uid) (target : List ℕ) (held : MapUid) (source : BoxNo) (old new : StoreValue D) (before after : Option History) (began faulted : Faults) → IsStore before old → old.stopped ≡ false → IsReadyToMove name uid (stage.Adding held source) old → FellAdding name uid target held source old new before after began faulted
    → MoveKnown name uid target (stage.Adding held source) (stage.Adding held source) (progress.Done (reply.Refused refusal.Stopped)) (did.Broken half.CopyHalf) old new before after began faulted
known_unadded name uid target held source old new before after began faulted is ran ready r = record {
  ready = record {
    due = held_still held old new ready.due (λ other. due_as_before old new other r.fell.appends.map r.fell.dues);
    source = fallen_keeps source.0 uid.0 held.0 old new r.fell.appends.map r.fell.indexes ready.source;
  };
  does = add_fell (request.Move name uid target) name uid target half.CopyHalf held source (IsAtMove uid (stage.Adding held source)) old new before after began faulted (move_copies name uid target) is ran r;
  keeps = box_fell_keeps _ _ _ _ old new before after began faulted ran r.fell;
  moves = moves_as (move_amounts (stage.Adding held source)) (amounts_in old) (amounts_in new) (λ other. due_as_before old new other r.fell.appends.map r.fell.dues);
  replies = (refl, refl, r.fell.stopped, refl);
  left = λ e. absurd (done_more (reply.Refused refusal.Stopped) e);
}

pub known_back : {D : Type 0} → (name : List ℕ) (uid : Uid) (target : List ℕ) (held : MapUid) (source : BoxNo) (why : Refusal) (how : Did) (store : StoreValue D) (history : Option History) (faults : Faults) → store.stopped ≡ false → IsReadyToMove name uid (stage.Adding held source) store → (copy_refusal name uid.0 target store ≡ Some why) ⊎ (why ≡ refusal.NoMemory)
    → CopyingClause (request.Move name uid target) (IsAtMove uid (stage.Adding held source)) (IsAtMove uid (stage.GivingBack held why)) store store history history faults faults how None
    → MoveKnown name uid target (stage.Adding held source) (stage.GivingBack held why) progress.More how store store history history faults faults
known_back name uid target held source why how store history faults runs ready cause does = record {
  ready = record { due = ready.due; source = back_runs name uid target why store cause };
  does = does;
  keeps = idle_keeps (KeepsRest store store) _ _ _ store history faults runs (more_is (reply.Refused refusal.Stopped)) refl;
  moves = moves_as (move_amounts (stage.Adding held source)) (amounts_in store) (amounts_in store) (λ other. refl);
  replies = (refl, refl, cause);
  left = λ e. no_more_left 1 3 store store (omega arith) (omega arith);
}

-- ---- the name of its source names another mailbox: it begins again

pub known_elsewhere : {D : Type 0} → (name : List ℕ) (uid : Uid) (target : List ℕ) (held : MapUid) (source : BoxNo) (store : StoreValue D) (history : Option History) (faults : Faults) → store.stopped ≡ false → IsReadyToMove name uid (stage.Adding held source) store → IsNamedElsewhere name uid.0 target source.0 store
    → MoveKnown name uid target (stage.Adding held source) (stage.BeginningAgain held) progress.More did.Quiet store store history history faults faults
known_elsewhere name uid target held source store history faults runs ready other = record {
  ready = record { due = ready.due; source = tt };
  does = add_elsewhere (request.Move name uid target) name uid target half.CopyHalf held source.0 store history faults (move_copies name uid target) runs other;
  keeps = idle_keeps (KeepsRest store store) _ _ _ store history faults runs (more_is (reply.Refused refusal.Stopped)) refl;
  moves = moves_as (move_amounts (stage.Adding held source)) (amounts_in store) (amounts_in store) (λ u. refl);
  replies = (refl, refl, other);
  left = λ e. no_more_left 2 3 store store (omega arith) (omega arith);
}

pub known_again : {D : Type 0} → (name : List ℕ) (uid : Uid) (target : List ℕ) (held : MapUid) (old new : StoreValue D) (before after : Option History) (began faulted : Faults) → old.stopped ≡ false → old.map_log.end < 2 ^ 64 → IsReadyToMove name uid (stage.BeginningAgain held) old
    → MapTook (lowering_of held) old new before after began faulted → MoveKnown name uid target (stage.BeginningAgain held) stage.First progress.More did.Quiet old new before after began faulted
known_again name uid target held old new before after began faulted ran bounded ready t = record {
  ready = none_due name uid new;
  does = begun_again (request.Move name uid target) name uid target half.CopyHalf held old new before after began faulted (move_copies name uid target) ran ready.due t;
  keeps = map_took_keeps _ _ _ _ old new before after began faulted ran (more_is (reply.Refused refusal.Stopped)) t;
  moves = record { due = λ other. ended_moves (due_at other old) (due_at other new) held.0 other (lowered_due held old new other (ready.due other) (t.due other)) };
  replies = record { indexes = t.appends.indexes; mailboxes = t.appends.mailboxes; taken = t.taken };
  left = λ e. paid_by_map 4 2 old new (omega arith) bounded t.further;
}

pub known_not_again : {D : Type 0} → (name : List ℕ) (uid : Uid) (target : List ℕ) (held : MapUid) (old new : StoreValue D) (before after : Option History) (began faulted : Faults) → old.stopped ≡ false → IsReadyToMove name uid (stage.BeginningAgain held) old → MapFell old new before after began faulted
    → MoveKnown name uid target (stage.BeginningAgain held) (stage.BeginningAgain held) (progress.Done (reply.Refused refusal.Stopped)) did.Failed old new before after began faulted
known_not_again name uid target held old new before after began faulted ran ready f = record {
  ready = record { due = held_still held old new ready.due (λ other. due_as_before old new other f.map f.dues); source = tt };
  does = again_fell (request.Move name uid target) name uid target half.CopyHalf held (IsAtMove uid (stage.BeginningAgain held)) old new before after began faulted (move_copies name uid target) ran f;
  keeps = map_fell_keeps _ _ old new before after began faulted ran f;
  moves = moves_as (move_amounts (stage.BeginningAgain held)) (amounts_in old) (amounts_in new) (λ other. due_as_before old new other f.map f.dues);
  replies = (refl, refl, f.stopped);
  left = λ e. absurd (done_more (reply.Refused refusal.Stopped) e);
}

-- ---- the count is given back

pub known_given : {D : Type 0} → (name : List ℕ) (uid : Uid) (target : List ℕ) (held : MapUid) (why : Refusal) (old new : StoreValue D) (before after : Option History) (began faulted : Faults) → old.stopped ≡ false → IsReadyToMove name uid (stage.GivingBack held why) old → (why ≡ refusal.Stopped → ⊥)
    → MapTook (lowering_of held) old new before after began faulted → MoveKnown name uid target (stage.GivingBack held why) stage.First (progress.Done (reply.Refused why)) did.Quiet old new before after began faulted
known_given name uid target held why old new before after began faulted ran ready running t = record {
  ready = none_due name uid new;
  does = given_back (request.Move name uid target) name uid target half.CopyHalf held why (IsAtMove uid stage.First) old new before after began faulted (move_copies name uid target) ran ready.due t;
  keeps = map_took_keeps _ _ _ _ old new before after began faulted ran (λ e. running (why_is why refusal.Stopped e)) t;
  moves = record { due = λ other. ended_moves (due_at other old) (due_at other new) held.0 other (lowered_due held old new other (ready.due other) (t.due other)) };
  replies = (refl, record { indexes = t.appends.indexes; mailboxes = t.appends.mailboxes; taken = t.taken });
  left = λ e. absurd (done_more (reply.Refused why) e);
}

pub known_ungiven : {D : Type 0} → (name : List ℕ) (uid : Uid) (target : List ℕ) (held : MapUid) (why : Refusal) (old new : StoreValue D) (before after : Option History) (began faulted : Faults) → old.stopped ≡ false → IsReadyToMove name uid (stage.GivingBack held why) old → MapFell old new before after began faulted
    → MoveKnown name uid target (stage.GivingBack held why) (stage.GivingBack held why) (progress.Done (reply.Refused refusal.Stopped)) did.Failed old new before after began faulted
known_ungiven name uid target held why old new before after began faulted ran ready f = record {
  ready = record { due = held_still held old new ready.due (λ other. due_as_before old new other f.map f.dues); source = ready.source };
  does = back_fell (request.Move name uid target) name uid target half.CopyHalf held why (IsAtMove uid (stage.GivingBack held why)) old new before after began faulted (move_copies name uid target) ran f;
  keeps = map_fell_keeps _ _ old new before after began faulted ran f;
  moves = moves_as (move_amounts (stage.GivingBack held why)) (amounts_in old) (amounts_in new) (λ other. due_as_before old new other f.map f.dues);
  replies = (refl, refl, refl, f.stopped);
  left = λ e. absurd (done_more (reply.Refused refusal.Stopped) e);
}

-- ---- the second half

pub known_removed : {D : Type 0} → (name : List ℕ) (uid : Uid) (target : List ℕ) (held : MapUid) (copied : Uid) (source : BoxNo) (old new : StoreValue D) (before after : Option History) (began faulted : Faults) → IsStore before old → old.stopped ≡ false → IsReadyToMove name uid (stage.Removing held copied source) old → RemovesFrom source uid held old new before after began faulted
    → MoveKnown name uid target (stage.Removing held copied source) (stage.Owing held copied) progress.More (did.Step half.ExpungeHalf) old new before after began faulted
known_removed name uid target held copied source old new before after began faulted is ran ready r = record {
  ready = record { due = λ other. raised_covers (due_at other old) (due_at other new) held.0 other (rises other); source = tt };
  does = move_removed name uid target held copied source old new before after began faulted is ran r;
  keeps = box_took_keeps _ _ _ _ _ old new before after began faulted ran (more_is (reply.Refused refusal.Stopped)) r.took;
  moves = record { due = λ other. raised_moves (due_at other old) (due_at other new) held.0 other (rises other) };
  replies = (refl, refl, (r.row, r.there, r.owes), r.took.taken);
  left = λ e. no_more_left 1 2 old new (omega arith) r.took.appends.end;
}
  where
    rises : (other : ℕ) → due_at other new ≡ due_at other old + one_due held.0 other
    rises other = subst (λ (u : ℕ). due_at other new ≡ due_at other old + one_due u other) (sym r.owes) (removal_due old new r.there.m uid r.row other r.there.listed (r.took.due r.there.m other r.there.numbered))

pub known_gone : {D : Type 0} → (name : List ℕ) (uid : Uid) (target : List ℕ) (held : MapUid) (copied : Uid) (source : BoxNo) (store : StoreValue D) (history : Option History) (faults : Faults) → store.stopped ≡ false → IsReadyToMove name uid (stage.Removing held copied source) store → row_numbered source.0 uid.0 store ≡ None
    → MoveKnown name uid target (stage.Removing held copied source) stage.First (progress.Done (reply.Moved copied true)) (did.Step half.ExpungeHalf) store store history history faults faults
known_gone name uid target held copied source store history faults runs ready missing = record {
  ready = none_due name uid store;
  does = move_gone name uid target held copied source.0 (IsAtMove uid stage.First) store history faults runs missing;
  keeps = idle_keeps (KeepsRest store store) _ _ _ store history faults runs (moved_stopped copied true) refl;
  moves = moves_as (move_amounts stage.First) (amounts_in store) (amounts_in store) (λ other. refl);
  replies = (refl, refl, refl, missing);
  left = λ e. absurd (done_more (reply.Moved copied true) e);
}

pub known_broken : {D : Type 0} → (name : List ℕ) (uid : Uid) (target : List ℕ) (held : MapUid) (copied : Uid) (source : BoxNo) (old new : StoreValue D) (before after : Option History) (began faulted : Faults) → IsStore before old → old.stopped ≡ false → IsReadyToMove name uid (stage.Removing held copied source) old
    → FellFrom source uid old new before after began faulted → MoveKnown name uid target (stage.Removing held copied source) (stage.Removing held copied source) (progress.Done (reply.Refused refusal.Stopped)) (did.Broken half.ExpungeHalf) old new before after began faulted
known_broken name uid target held copied source old new before after began faulted is ran ready r = record {
  ready = record {
    due = λ other. omega arith;
    source = fallen_keeps source.0 uid.0 held.0 old new r.fell.appends.map r.fell.indexes ready.source;
  };
  does = move_broken name uid target held copied source (IsAtMove uid (stage.Removing held copied source)) old new before after began faulted is ran r;
  keeps = box_fell_keeps _ _ _ _ old new before after began faulted ran r.fell;
  moves = moves_as (move_amounts (stage.Removing held copied source)) (amounts_in old) (amounts_in new) (λ other. due_as_before old new other r.fell.appends.map r.fell.dues);
  replies = (refl, refl, refl, r.fell.stopped, refl);
  left = λ e. absurd (done_more (reply.Refused refusal.Stopped) e);
}

-- ---- the last event

pub known_lowered : {D : Type 0} → (name : List ℕ) (uid : Uid) (target : List ℕ) (owed : MapUid) (copied : Uid) (old new : StoreValue D) (before after : Option History) (began faulted : Faults) → old.stopped ≡ false → IsReadyToMove name uid (stage.Owing owed copied) old
    → MapTook (lowering_of owed) old new before after began faulted → MoveKnown name uid target (stage.Owing owed copied) stage.First (progress.Done (reply.Moved copied false)) did.Quiet old new before after began faulted
known_lowered name uid target owed copied old new before after began faulted ran ready t = record {
  ready = none_due name uid new;
  does = move_lowered name uid target owed copied (IsAtMove uid stage.First) old new before after began faulted ran ready.due t;
  keeps = map_took_keeps _ _ _ _ old new before after began faulted ran (moved_stopped copied false) t;
  moves = record { due = λ other. ended_moves (due_at other old) (due_at other new) owed.0 other (lowered_due owed old new other (ready.due other) (t.due other)) };
  replies = (refl, refl, record { indexes = t.appends.indexes; mailboxes = t.appends.mailboxes; taken = t.taken });
  left = λ e. absurd (done_more (reply.Moved copied false) e);
}

pub known_unlowered : {D : Type 0} → (name : List ℕ) (uid : Uid) (target : List ℕ) (owed : MapUid) (copied : Uid) (old new : StoreValue D) (before after : Option History) (began faulted : Faults) → old.stopped ≡ false → IsReadyToMove name uid (stage.Owing owed copied) old → MapFell old new before after began faulted
    → MoveKnown name uid target (stage.Owing owed copied) (stage.Owing owed copied) (progress.Done (reply.Refused refusal.Stopped)) did.Failed old new before after began faulted
known_unlowered name uid target owed copied old new before after began faulted ran ready f = record {
  ready = record { due = held_still owed old new ready.due (λ other. due_as_before old new other f.map f.dues); source = tt };
  does = move_unlowered name uid target owed copied (IsAtMove uid (stage.Owing owed copied)) old new before after began faulted ran f;
  keeps = map_fell_keeps _ _ old new before after began faulted ran f;
  moves = moves_as (move_amounts (stage.Owing owed copied)) (amounts_in old) (amounts_in new) (λ other. due_as_before old new other f.map f.dues);
  replies = (refl, refl, refl, f.stopped);
  left = λ e. absurd (done_more (reply.Refused refusal.Stopped) e);
}
