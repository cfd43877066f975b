-- What the step of a copy says, event by event.
use Rattle.mail_ops.proofs.Common.{◌≡◌, ◌<◌, ◌+◌, ℕ, true, false, List, Option, Some, None, refl, sym, subst, arith, inl, inr, ◌⊎◌, History, Faults, BoxNo, MapUid, Uid, Did, Progress, Refusal, due_at, Moves, amounts_in, KeepsRest, IsStore, StoreValue, moves_as, IsKept, ended_by, MapTook}
use Rattle.mail_ops.proofs.Common.{MapFell, lowering_of, CopiesOn, copy_refusal, RaisesRow, IsRaiseRefusal, IsNotRaised, AddsRow, FellAdding, ChangesOnlyLogs, refusal_told, told_as, CopyStage, NotDone, due_as_before}
use Rattle.std.specs.Prelude.{◌*◌, ◌^◌}
use Rattle.mdbox_base.specs.declared.progress.Did.TheVariants as did
use Rattle.mdbox_base.specs.declared.progress.Progress.TheVariants as progress
use Rattle.mdbox_base.specs.declared.replies.Refusal.TheVariants as refusal
use Rattle.mdbox_base.specs.declared.replies.Reply.TheVariants as reply
use Rattle.mdbox_base.specs.declared.requests.Request.TheVariants as request
use Rattle.mdbox_base.specs.declared.script.Half.TheVariants as half
use Rattle.mail_ops.specs.Copy.{CopyValue, IsAtCopy, copy_amounts, copy_left, IsReadyToCopy, CopyAnswers}
use Rattle.mail_ops.specs.Copying.{IsNamedElsewhere, IsStillNamed, MayBeRaised}
use Rattle.mail_ops.specs.Owing.{map_room_left}
use Rattle.mail_ops.specs.declared.copy.CopyStage.TheVariants as stage
use Rattle.mail_ops.specs.declared.event.NotDone.TheVariants as not_done
use Rattle.mail_ops.proofs.CopyFirstLemmas.{CopyingClause, back_runs, raise_done, raise_fell, raise_refused, raise_steps, raise_stopped, raise_unremembered}
use Rattle.mail_ops.proofs.CopyLastLemmas.{added_due, add_elsewhere, add_stopped, add_refused, add_unremembered, add_fell, again_fell, again_stopped, beginning_again_kept, begun_again, copy_added, back_stopped, back_fell, given_back, holding_kept, giving_back_kept, to_raise_kept}
use Rattle.mail_ops.proofs.CopyPartLemmas.{copy_copies}
use Rattle.mail_ops.proofs.KeptUidLemmas.{fallen_keeps, raised_source}
use Rattle.mail_ops.proofs.LoweringLemmas.{ended_moves, held_still, lowered_due, raised_covers, raised_moves}
use Rattle.mail_ops.proofs.MapRoomLemmas.{no_more_left, paid_by_map}
use Rattle.mail_ops.proofs.OnlyLogsLemmas.{box_fell_keeps, box_took_keeps, idle_keeps, map_fell_keeps, map_took_keeps}
use Rattle.mail_ops.proofs.ToldLemmas.{done_more, memory_runs, more_is, step_runs, why_is}

-- what a step says of an event
pub record CopyKnown {D : Type 0} (name : List ℕ) (uid : Uid) (target : List ℕ) (now next : CopyStage) (answer : Progress) (how : Did) (old new : StoreValue D) (before after : Option History) (began faulted : Faults) : Type 0 where
  pub ready : IsReadyToCopy name uid next new
  pub does : CopyingClause (request.Copy name uid target) (IsAtCopy now) (IsAtCopy next) old new before after began faulted how (ended_by answer)
  pub keeps : ChangesOnlyLogs (KeepsRest old new) now next answer old new before after began faulted
  pub moves : Moves (copy_amounts now) (copy_amounts next) (amounts_in old) (amounts_in new)
  pub replies : CopyAnswers name uid target now old new next answer
  pub left : answer ≡ progress.More → copy_left next + 3 * map_room_left new < copy_left now + 3 * map_room_left old

-- ---- answers that are told apart

copied_stopped : (given : Uid) → progress.Done (reply.Copied given) ≡ progress.Done (reply.Refused refusal.Stopped) → ⊥
copied_stopped given e = let k : reply.Copied given ≡ reply.Refused refusal.Stopped = cc e in cc k

none_due : {D : Type 0} → (name : List ℕ) (uid : Uid) (store : StoreValue D) → IsReadyToCopy name uid stage.First store
none_due name uid store = record { due = λ other. omega arith; source = tt }

-- ---- the first event

known_raised : {D : Type 0} → (name : List ℕ) (uid : Uid) (target : List ℕ) (held : MapUid) (source : BoxNo) (old new : StoreValue D) (before after : Option History) (began faulted : Faults) → IsStore before old → old.stopped ≡ false → RaisesRow name uid target held source old new before after began faulted
    → CopyKnown name uid target stage.First (stage.Adding held source) progress.More did.Quiet old new before after began faulted
known_raised name uid target held source old new before after began faulted is ran r = record {
  ready = record {
    due = λ other. raised_covers (due_at other old) (due_at other new) held.0 other (r.took.due other);
    source = raised_source name uid target held source old new before after began faulted r;
  };
  does = raise_done (request.Copy name uid target) name uid target half.Whole held source old new before after began faulted (copy_copies name uid target) is ran r;
  keeps = map_took_keeps _ _ _ _ old new before after began faulted ran (more_is (reply.Refused refusal.Stopped)) r.took;
  moves = record { due = λ other. raised_moves (due_at other old) (due_at other new) held.0 other (r.took.due other) };
  replies = (r.row, r.number, r.next, r.at, r.holds, r.few, record { indexes = r.took.appends.indexes; mailboxes = r.took.appends.mailboxes; taken = r.took.taken }, r.source_is);
  left = λ e. no_more_left 2 3 old new (omega arith) (let further = r.took.further in omega (arith, further));
}

known_unraised : {D : Type 0} → (name : List ℕ) (uid : Uid) (target : List ℕ) (old new : StoreValue D) (before after : Option History) (began faulted : Faults) → old.stopped ≡ false → MapFell old new before after began faulted → MayBeRaised name uid.0 target old
    → CopyKnown name uid target stage.First stage.First (progress.Done (reply.Refused refusal.Stopped)) did.Failed old new before after began faulted
known_unraised name uid target old new before after began faulted ran f may = record {
  ready = none_due name uid new;
  does = raise_fell (request.Copy name uid target) name uid target half.Whole (IsAtCopy stage.First) old new before after began faulted (copy_copies name uid target) ran f;
  keeps = map_fell_keeps _ _ old new before after began faulted ran f;
  moves = moves_as (copy_amounts stage.First) (amounts_in old) (amounts_in new) (λ other. due_as_before old new other f.map f.dues);
  replies = inl (refl, f.stopped, may);
  left = λ e. absurd (done_more (reply.Refused refusal.Stopped) e);
}

known_same : {D : Type 0} → (name : List ℕ) (uid : Uid) (target : List ℕ) (why : Refusal) (how : Did) (store : StoreValue D) (history : Option History) (faults : Faults) → store.stopped ≡ false → (why ≡ refusal.Stopped → ⊥) → IsRaiseRefusal name uid.0 target store why ⊎ ((why ≡ refusal.NoMemory) × MayBeRaised name uid.0 target store)
    → CopyingClause (request.Copy name uid target) (IsAtCopy stage.First) (IsAtCopy stage.First) store store history history faults faults how (Some (reply.Refused why))
    → CopyKnown name uid target stage.First stage.First (progress.Done (reply.Refused why)) how store store history history faults faults
known_same name uid target why how store history faults runs running cause does = record {
  ready = none_due name uid store;
  does = does;
  keeps = idle_keeps (KeepsRest store store) _ _ _ store history faults runs (λ e. running (why_is why refusal.Stopped e)) refl;
  moves = moves_as (copy_amounts stage.First) (amounts_in store) (amounts_in store) (λ other. refl);
  replies = inr (refl, cause);
  left = λ e. absurd (done_more (reply.Refused why) e);
}

known_refused : {D : Type 0} → (history : D → Option History) (faults : D → Faults) (name : List ℕ) (uid : Uid) (target : List ℕ) (error : NotDone) (old new : StoreValue D) → old.stopped ≡ false → IsNotRaised name uid target error old new (history old.disk) (history new.disk) (faults old.disk) (faults new.disk)
    → CopyKnown name uid target stage.First stage.First (progress.Done (reply.Refused (refusal_told error))) (told_as half.Whole did.Failed error) old new (history old.disk) (history new.disk) (faults old.disk) (faults new.disk)
known_refused history faults name uid target (not_done.Refused why) old new ran r = rw r.0 (known_same name uid target why (did.Step half.Whole) old (history old.disk) (faults old.disk) ran (step_runs why (raise_steps name uid.0 target old why r.1)) (inl r.1) (raise_refused (request.Copy name uid target) name uid target half.Whole (IsAtCopy stage.First) old (history old.disk) (faults old.disk) why (copy_copies name uid target) ran r.1))
known_refused history faults name uid target not_done.NoMemory old new ran r = rw r.0 (known_same name uid target refusal.NoMemory did.Quiet old (history old.disk) (faults old.disk) ran memory_runs (inr (refl, r.1)) (raise_unremembered (request.Copy name uid target) name uid target half.Whole (IsAtCopy stage.First) old (history old.disk) (faults old.disk) (copy_copies name uid target) ran))
known_refused history faults name uid target not_done.Stopped old new ran r = known_unraised name uid target old new (history old.disk) (history new.disk) (faults old.disk) (faults new.disk) ran r.0 r.1

-- ---- the second event

known_added : {D : Type 0} → (name : List ℕ) (uid : Uid) (target : List ℕ) (held : MapUid) (source : BoxNo) (given : Uid) (old new : StoreValue D) (before after : Option History) (began faulted : Faults) → IsStore before old → old.stopped ≡ false → IsReadyToCopy name uid (stage.Adding held source) old
    → AddsRow name uid target held source given old new before after began faulted → CopyKnown name uid target (stage.Adding held source) stage.First (progress.Done (reply.Copied given)) (did.Step half.Whole) old new before after began faulted
known_added name uid target held source given old new before after began faulted is ran ready r = record {
  ready = none_due name uid new;
  does = copy_added name uid target held source given (IsAtCopy stage.First) old new before after began faulted is ran ready.due r;
  keeps = box_took_keeps _ _ _ _ _ old new before after began faulted ran (copied_stopped given) r.took;
  moves = record { due = λ other. ended_moves (due_at other old) (due_at other new) held.0 other (added_due held given r.row r.at.m old new other r.holds (ready.due other) (r.took.due r.at.m other r.at.to.numbered)) };
  replies = (r.row, r.number, r.at, r.holds, r.source_is, r.took.taken);
  left = λ e. absurd (done_more (reply.Copied given) e);
}

known_unadded : {D : Type 0} → (name : List ℕ) (uid : Uid) (target : List ℕ) (held : MapUid) (source : BoxNo) (old new : StoreValue D) (before after : Option History) (began faulted : Faults) → IsStore before old → old.stopped ≡ false → IsReadyToCopy name uid (stage.Adding held source) old → FellAdding name uid target held source old new before after began faulted
    → CopyKnown name uid target (stage.Adding held source) (stage.Adding held source) (progress.Done (reply.Refused refusal.Stopped)) (did.Broken half.Whole) old new before after began faulted
known_unadded name uid target held source old new before after began faulted is ran ready r = record {
  ready = record {
    due = held_still held old new ready.due (λ other. due_as_before old new other r.fell.appends.map r.fell.dues);
    source = fallen_keeps source.0 uid.0 held.0 old new r.fell.appends.map r.fell.indexes ready.source;
  };
  does = add_fell (request.Copy name uid target) name uid target half.Whole held source (IsAtCopy (stage.Adding held source)) old new before after began faulted (copy_copies name uid target) is ran r;
  keeps = box_fell_keeps _ _ _ _ old new before after began faulted ran r.fell;
  moves = moves_as (copy_amounts (stage.Adding held source)) (amounts_in old) (amounts_in new) (λ other. due_as_before old new other r.fell.appends.map r.fell.dues);
  replies = (refl, refl, r.fell.stopped, refl);
  left = λ e. absurd (done_more (reply.Refused refusal.Stopped) e);
}

known_back : {D : Type 0} → (name : List ℕ) (uid : Uid) (target : List ℕ) (held : MapUid) (source : BoxNo) (why : Refusal) (how : Did) (store : StoreValue D) (history : Option History) (faults : Faults) → store.stopped ≡ false → IsReadyToCopy name uid (stage.Adding held source) store → (copy_refusal name uid.0 target store ≡ Some why) ⊎ (why ≡ refusal.NoMemory)
    → CopyingClause (request.Copy name uid target) (IsAtCopy (stage.Adding held source)) (IsAtCopy (stage.GivingBack held why)) store store history history faults faults how None
    → CopyKnown name uid target (stage.Adding held source) (stage.GivingBack held why) progress.More how store store history history faults faults
known_back name uid target held source why how store history faults runs ready cause does = record {
  ready = record { due = ready.due; source = back_runs name uid target why store cause };
  does = does;
  keeps = idle_keeps (KeepsRest store store) _ _ _ store history faults runs (more_is (reply.Refused refusal.Stopped)) refl;
  moves = moves_as (copy_amounts (stage.Adding held source)) (amounts_in store) (amounts_in store) (λ other. refl);
  replies = (refl, refl, cause);
  left = λ e. no_more_left 1 2 store store (omega arith) (omega arith);
}

known_elsewhere : {D : Type 0} → (name : List ℕ) (uid : Uid) (target : List ℕ) (held : MapUid) (source : BoxNo) (store : StoreValue D) (history : Option History) (faults : Faults) → store.stopped ≡ false → IsReadyToCopy name uid (stage.Adding held source) store → IsNamedElsewhere name uid.0 target source.0 store
    → CopyKnown name uid target (stage.Adding held source) (stage.BeginningAgain held) progress.More did.Quiet store store history history faults faults
known_elsewhere name uid target held source store history faults runs ready other = record {
  ready = record { due = ready.due; source = tt };
  does = add_elsewhere (request.Copy name uid target) name uid target half.Whole held source.0 store history faults (copy_copies name uid target) runs other;
  keeps = idle_keeps (KeepsRest store store) _ _ _ store history faults runs (more_is (reply.Refused refusal.Stopped)) refl;
  moves = moves_as (copy_amounts (stage.Adding held source)) (amounts_in store) (amounts_in store) (λ other. refl);
  replies = (refl, refl, other);
  left = λ e. no_more_left 1 2 store store (omega arith) (omega arith);
}

-- ---- the third event, behind which the copy begins again

known_begun : {D : Type 0} → (name : List ℕ) (uid : Uid) (target : List ℕ) (held : MapUid) (old new : StoreValue D) (before after : Option History) (began faulted : Faults) → old.stopped ≡ false → old.map_log.end < 2 ^ 64 → IsReadyToCopy name uid (stage.BeginningAgain held) old
    → MapTook (lowering_of held) old new before after began faulted → CopyKnown name uid target (stage.BeginningAgain held) stage.First progress.More did.Quiet old new before after began faulted
known_begun name uid target held old new before after began faulted ran bounded ready t = record {
  ready = none_due name uid new;
  does = begun_again (request.Copy name uid target) name uid target half.Whole held old new before after began faulted (copy_copies name uid target) ran ready.due t;
  keeps = map_took_keeps _ _ _ _ old new before after began faulted ran (more_is (reply.Refused refusal.Stopped)) t;
  moves = record { due = λ other. ended_moves (due_at other old) (due_at other new) held.0 other (lowered_due held old new other (ready.due other) (t.due other)) };
  replies = record { indexes = t.appends.indexes; mailboxes = t.appends.mailboxes; taken = t.taken };
  left = λ e. paid_by_map 3 1 old new (omega arith) bounded t.further;
}

known_unbegun : {D : Type 0} → (name : List ℕ) (uid : Uid) (target : List ℕ) (held : MapUid) (old new : StoreValue D) (before after : Option History) (began faulted : Faults) → old.stopped ≡ false → IsReadyToCopy name uid (stage.BeginningAgain held) old → MapFell old new before after began faulted
    → CopyKnown name uid target (stage.BeginningAgain held) (stage.BeginningAgain held) (progress.Done (reply.Refused refusal.Stopped)) did.Failed old new before after began faulted
known_unbegun name uid target held old new before after began faulted ran ready f = record {
  ready = record { due = held_still held old new ready.due (λ other. due_as_before old new other f.map f.dues); source = tt };
  does = again_fell (request.Copy name uid target) name uid target half.Whole held (IsAtCopy (stage.BeginningAgain held)) old new before after began faulted (copy_copies name uid target) ran f;
  keeps = map_fell_keeps _ _ old new before after began faulted ran f;
  moves = moves_as (copy_amounts (stage.BeginningAgain held)) (amounts_in old) (amounts_in new) (λ other. due_as_before old new other f.map f.dues);
  replies = (refl, refl, f.stopped);
  left = λ e. absurd (done_more (reply.Refused refusal.Stopped) e);
}

-- ---- the third event, which gives the count back

known_given : {D : Type 0} → (name : List ℕ) (uid : Uid) (target : List ℕ) (held : MapUid) (why : Refusal) (old new : StoreValue D) (before after : Option History) (began faulted : Faults) → old.stopped ≡ false → IsReadyToCopy name uid (stage.GivingBack held why) old → (why ≡ refusal.Stopped → ⊥)
    → MapTook (lowering_of held) old new before after began faulted → CopyKnown name uid target (stage.GivingBack held why) stage.First (progress.Done (reply.Refused why)) did.Quiet old new before after began faulted
known_given name uid target held why old new before after began faulted ran ready running t = record {
  ready = none_due name uid new;
  does = given_back (request.Copy name uid target) name uid target half.Whole held why (IsAtCopy stage.First) old new before after began faulted (copy_copies name uid target) ran ready.due t;
  keeps = map_took_keeps _ _ _ _ old new before after began faulted ran (λ e. running (why_is why refusal.Stopped e)) t;
  moves = record { due = λ other. ended_moves (due_at other old) (due_at other new) held.0 other (lowered_due held old new other (ready.due other) (t.due other)) };
  replies = (refl, record { indexes = t.appends.indexes; mailboxes = t.appends.mailboxes; taken = t.taken });
  left = λ e. absurd (done_more (reply.Refused why) e);
}

known_ungiven : {D : Type 0} → (name : List ℕ) (uid : Uid) (target : List ℕ) (held : MapUid) (why : Refusal) (old new : StoreValue D) (before after : Option History) (began faulted : Faults) → old.stopped ≡ false → IsReadyToCopy name uid (stage.GivingBack held why) old → MapFell old new before after began faulted
    → CopyKnown name uid target (stage.GivingBack held why) (stage.GivingBack held why) (progress.Done (reply.Refused refusal.Stopped)) did.Failed old new before after began faulted
known_ungiven name uid target held why old new before after began faulted ran ready f = record {
  ready = record { due = held_still held old new ready.due (λ other. due_as_before old new other f.map f.dues); source = ready.source };
  does = back_fell (request.Copy name uid target) name uid target half.Whole held why (IsAtCopy (stage.GivingBack held why)) old new before after began faulted (copy_copies name uid target) ran f;
  keeps = map_fell_keeps _ _ old new before after began faulted ran f;
  moves = moves_as (copy_amounts (stage.GivingBack held why)) (amounts_in old) (amounts_in new) (λ other. due_as_before old new other f.map f.dues);
  replies = (refl, refl, refl, f.stopped);
  left = λ e. absurd (done_more (reply.Refused refusal.Stopped) e);
}

-- ---- any event

abbrev KnownBy : {D : Type 0} → (D → Option History) → (D → Faults) → List ℕ → Uid → List ℕ → CopyStage → CopyStage → Progress → Did → StoreValue D → StoreValue D → Type 0
KnownBy history faults name uid target now next answer how old new = CopyKnown name uid target now next answer how old new (history old.disk) (history new.disk) (faults old.disk) (faults new.disk)

known_by : {D : Type 0} → (history : D → Option History) (faults : D → Faults) (name : List ℕ) (uid : Uid) (target : List ℕ) (now next : CopyStage) (answer : Progress) (how : Did) (old new : StoreValue D) → IsStore (history old.disk) old → old.stopped ≡ false → old.map_log.end < 2 ^ 64 → IsReadyToCopy name uid now old
    → CopiesOn name uid target now next answer how old new (history old.disk) (history new.disk) (faults old.disk) (faults new.disk) → KnownBy history faults name uid target now next answer how old new
known_by history faults name uid target stage.First (stage.Adding held source) progress.More how old new is ran bounded ready on = rw on.0 (known_raised name uid target held source old new (history old.disk) (history new.disk) (faults old.disk) (faults new.disk) is ran on.1)
known_by history faults name uid target stage.First stage.First (progress.Done (reply.Refused why)) how old new is ran bounded ready on = rw (on.2, on.1) (known_refused history faults name uid target on.0 old new ran on.3)
known_by history faults name uid target (stage.Adding held source) stage.First (progress.Done (reply.Copied given)) how old new is ran bounded ready on = rw on.0 (known_added name uid target held source given old new (history old.disk) (history new.disk) (faults old.disk) (faults new.disk) is ran ready on.1)
known_by history faults name uid target (stage.Adding held source) (stage.Adding still same) (progress.Done (reply.Refused why)) how old new is ran bounded ready on = rw (on.2, on.1, on.0, on.4) (known_unadded name uid target held source old new (history old.disk) (history new.disk) (faults old.disk) (faults new.disk) is ran ready on.3)
known_by history faults name uid target (stage.Adding held source) (stage.GivingBack still why) progress.More how old new is ran bounded ready on = rw (on.0, on.1) (by_cause on.2)
  where
    by_cause : ((how ≡ did.Step half.Whole) × (copy_refusal name uid.0 target old ≡ Some why)) ⊎ ((how ≡ did.Quiet) × (why ≡ refusal.NoMemory) × IsStillNamed name uid.0 target source.0 old) → KnownBy history faults name uid target (stage.Adding held source) (stage.GivingBack held why) progress.More how old old
    by_cause (inl e) = rw e.0 (known_back name uid target held source why (did.Step half.Whole) old (history old.disk) (faults old.disk) ran ready (inl e.1) (add_refused (request.Copy name uid target) name uid target half.Whole held source.0 old (history old.disk) (faults old.disk) why (copy_copies name uid target) ran e.1))
    by_cause (inr e) = rw (e.0, e.1) (known_back name uid target held source refusal.NoMemory did.Quiet old (history old.disk) (faults old.disk) ran ready (inr refl) (add_unremembered (request.Copy name uid target) name uid target half.Whole held source.0 old (history old.disk) (faults old.disk) (copy_copies name uid target) ran e.2.named))
known_by history faults name uid target (stage.Adding held source) (stage.BeginningAgain still) progress.More how old new is ran bounded ready on = rw (on.0, on.1, on.2) (known_elsewhere name uid target held source old (history old.disk) (faults old.disk) ran ready on.3)
known_by history faults name uid target (stage.BeginningAgain held) stage.First progress.More how old new is ran bounded ready on = rw on.0 (known_begun name uid target held old new (history old.disk) (history new.disk) (faults old.disk) (faults new.disk) ran bounded ready on.1)
known_by history faults name uid target (stage.BeginningAgain held) (stage.BeginningAgain still) (progress.Done (reply.Refused why)) how old new is ran bounded ready on = rw (on.2, on.1, on.0) (known_unbegun name uid target held old new (history old.disk) (history new.disk) (faults old.disk) (faults new.disk) ran ready on.3)
known_by history faults name uid target (stage.GivingBack held why) stage.First (progress.Done (reply.Refused given)) how old new is ran bounded ready on = rw (on.1, on.0) (known_given name uid target held why old new (history old.disk) (history new.disk) (faults old.disk) (faults new.disk) ran ready ready.source on.2)
known_by history faults name uid target (stage.GivingBack held why) (stage.GivingBack still cause) (progress.Done (reply.Refused given)) how old new is ran bounded ready on = rw (on.3, on.2, on.1, on.0) (known_ungiven name uid target held why old new (history old.disk) (history new.disk) (faults old.disk) (faults new.disk) ran ready on.4)
known_by history faults name uid target now next answer how old new is ran bounded ready on = absurd on

-- Of a task that is seen as this.
pub copy_known_by : {D : Type 0} → (history : D → Option History) (faults : D → Faults) (task seen : CopyValue) (now next : CopyStage) (answer : Progress) (how : Did) (old new : StoreValue D) → task ≡ seen → task.stage ≡ now → IsStore (history old.disk) old → old.stopped ≡ false → old.map_log.end < 2 ^ 64
    → IsReadyToCopy task.name task.uid now old → CopiesOn task.name task.uid task.target now next answer how old new (history old.disk) (history new.disk) (faults old.disk) (faults new.disk)
    → KnownBy history faults seen.name seen.uid seen.target seen.stage next answer how old new
copy_known_by history faults task seen now next answer how old new same at is ran bounded ready on =
    subst (λ (v : CopyValue). KnownBy history faults v.name v.uid v.target v.stage next answer how old new) same
    (subst (λ (s : CopyStage). KnownBy history faults task.name task.uid task.target s next answer how old new) (sym at) (known_by history faults task.name task.uid task.target now next answer how old new is ran bounded ready on))

pub copy_ready : {D : Type 0} → (task seen : CopyValue) (now : CopyStage) (store : StoreValue D) → task ≡ seen → task.stage ≡ now → IsReadyToCopy seen.name seen.uid seen.stage store → IsReadyToCopy task.name task.uid now store
copy_ready task seen now store same at ready =
    subst (λ (s : CopyStage). IsReadyToCopy task.name task.uid s store) at (subst (λ (v : CopyValue). IsReadyToCopy v.name v.uid v.stage store) (sym same) ready)

-- Of one whose store was stopped.
stopped_at : {D : Type 0} → (name : List ℕ) (uid : Uid) (target : List ℕ) (now : CopyStage) (store : StoreValue D) (history : Option History) (faults : Faults) → store.stopped ≡ true
    → CopyingClause (request.Copy name uid target) (IsAtCopy now) (IsAtCopy now) store store history history faults faults did.Quiet (Some (reply.Refused refusal.Stopped))
stopped_at name uid target stage.First store history faults stopped = raise_stopped (request.Copy name uid target) name uid target half.Whole (IsAtCopy stage.First) store history faults (copy_copies name uid target) stopped
stopped_at name uid target (stage.Adding held source) store history faults stopped = add_stopped (request.Copy name uid target) name uid target half.Whole held source.0 (IsAtCopy (stage.Adding held source)) store history faults (copy_copies name uid target) stopped
stopped_at name uid target (stage.BeginningAgain held) store history faults stopped = again_stopped (request.Copy name uid target) name uid target half.Whole held (IsAtCopy (stage.BeginningAgain held)) store history faults (copy_copies name uid target) stopped
stopped_at name uid target (stage.GivingBack held why) store history faults stopped = back_stopped (request.Copy name uid target) name uid target half.Whole held why (IsAtCopy (stage.GivingBack held why)) store history faults (copy_copies name uid target) stopped

pub copy_stopped : {D : Type 0} → (task seen : CopyValue) (store : StoreValue D) (history : Option History) (faults : Faults) → task ≡ seen → store.stopped ≡ true
    → CopyingClause (request.Copy seen.name seen.uid seen.target) (IsAtCopy seen.stage) (IsAtCopy task.stage) store store history history faults faults did.Quiet (Some (reply.Refused refusal.Stopped))
copy_stopped task seen store history faults same stopped =
    subst (λ (v : CopyValue). CopyingClause (request.Copy v.name v.uid v.target) (IsAtCopy v.stage) (IsAtCopy task.stage) store store history history faults faults did.Quiet (Some (reply.Refused refusal.Stopped))) same (stopped_at task.name task.uid task.target task.stage store history faults stopped)

-- ---- as other requests go on

pub copy_kept : (now : CopyStage) → IsKept (IsAtCopy now)
copy_kept stage.First = to_raise_kept
copy_kept (stage.Adding held source) = holding_kept held source.0
copy_kept (stage.BeginningAgain held) = beginning_again_kept held
copy_kept (stage.GivingBack held why) = giving_back_kept held why
