-- What the step of a make says, event by event.
use Rattle.mail_ops.proofs.Common.{◌≡◌, ◌≤◌, ◌<◌, ◌+◌, ℕ, Bool, true, false, cond, List, Option, Some, None, refl, sym, ◌∙◌, ap, subst, arith, inl, inr, nat_tests, ◌⊎◌, nat_lt, common_steps, History, Faults, IsNumber, BoxNo, Did, Progress, Refusal, Lists, Moves, amounts_in, KeepsMail, KeepsUids}
use Rattle.mail_ops.proofs.Common.{has_made_log, IsStore, StoreValue, indexes_of, moves_as, ended_by, refusal_told, told_as, naming_refusal, making_refusal, IsReadyToMake, with_drawn_box, NamesLog, IsStoppedSo, HasChangedDisk, FellChanging, MadeLogSo, CanBeNamed, NotDone, MakeStage, SyncsMail}
use Rattle.mail_ops.proofs.Common.{ChangesOnlyLogs, due_as_before}
use Rattle.mdbox_base.specs.Words.{IsName}
use Rattle.mdbox_base.specs.declared.progress.Did.TheVariants as did
use Rattle.mdbox_base.specs.declared.progress.Progress.TheVariants as progress
use Rattle.mdbox_base.specs.declared.replies.Refusal.TheVariants as refusal
use Rattle.mdbox_base.specs.declared.replies.Reply.TheVariants as reply
use Rattle.mdbox_base.specs.declared.script.Half.TheVariants as half
use Rattle.store_core.specs.Dues.{no_amounts}
use Rattle.store_core.specs.MadeLogs.{IsUnnamed, KeepsGone, without_box}
use Rattle.task_claims.proofs.GoneLemmas.{gone_created, gone_named, gone_removed, gone_same, gone_stays}
use Rattle.mail_ops.specs.Making.{MakeValue, KeepsAllButLogs, make_left, RemovesLog, IsLogNotMade, MakeAnswers, same_lists, with_mailbox, FellIfStopped, MakesOn}
use Rattle.mail_ops.specs.declared.event.NotDone.TheVariants as not_done
use Rattle.mail_ops.specs.declared.making.MakeStage.TheVariants as stage
use Rattle.mail_ops.proofs.OnlyLogsLemmas.{done_keeps, fell_keeps, idle_keeps, mail_named, spared_none, took_spares}
use Rattle.mail_ops.proofs.KeptUidLemmas.{logs_keep, same_highest, same_keeps}
use Rattle.mail_ops.proofs.MakeCheckLemmas.{naming_steps, making_steps}
use Rattle.mail_ops.proofs.MakeEventLemmas.{MakeClause, first_stopped, naming_stopped, making_refused, making_unremembered, making_fell, making_done, naming_refused, naming_unremembered, removing_fell, naming_overtaken}
use Rattle.mail_ops.proofs.MakeLogLemmas.{made_there, naming_keeps}
use Rattle.mail_ops.proofs.MakeNamedLemmas.{IsNamedSo, named_due, naming_done, naming_fell}
use Rattle.mail_ops.proofs.ToldLemmas.{done_more, memory_runs, more_is, step_runs, why_is}

-- what a step says of an event
pub record MakeKnown {D : Type 0} (name : List ℕ) (now next : MakeStage) (answer : Progress) (how : Did) (old new : StoreValue D) (before after : Option History) (began then : Faults) : Type 0 where
  pub ready : IsReadyToMake next new
  pub does : MakeClause name now next old new before after began then how (ended_by answer)
  pub keeps : ChangesOnlyLogs (KeepsAllButLogs old new) now next answer old new before after began then
  pub moves : Moves no_amounts no_amounts (amounts_in old) (amounts_in new)
  pub uids : KeepsUids old new
  pub gone : KeepsGone old new
  pub replies : MakeAnswers name now old new before after next answer
  pub left : answer ≡ progress.More → make_left next new < make_left now old

-- What is known of the store and the name as an event begins.
pub record MakeBegins {D : Type 0} (name : List ℕ) (now : MakeStage) (store : StoreValue D) (history : Option History) : Type 0 where
  pub store_is : IsStore history store
  pub runs : store.stopped ≡ false
  pub is_name : IsName name
  pub ready : IsReadyToMake now store
  pub made : (number : ℕ) → has_made_log number store ≡ true → IsNumber number × (number ≤ store.drawn.mailbox) × IsUnnamed number store.map

-- ---- answers that are told apart

made_stopped : progress.Done reply.Done ≡ progress.Done (reply.Refused refusal.Stopped) → ⊥
made_stopped e = let k : reply.Done ≡ reply.Refused refusal.Stopped = cc e in cc k

-- ---- the first event

above_drawn : (highest drawn number : ℕ) → highest ≤ drawn → number ≡ drawn + 1 → highest < number
above_drawn highest drawn number l e = omega (arith, l, e)

high_number : (highest drawn number : ℕ) → highest ≤ drawn → number ≡ drawn + 1 → nat_lt highest number ≡ true
high_number highest drawn number l e = let k : highest < number = omega (arith, l, e) in grind (arith, common_steps, k)

one_left : (b : Bool) → b ≡ true → cond b 1 3 < 2
one_left b e = grind (arith, common_steps, nat_tests)

known_made : {D : Type 0} → (name : List ℕ) (number : BoxNo) (old new : StoreValue D) (before after : Option History) (began then : Faults) → MakeBegins name stage.First old before → MadeLogSo name number.0 old new before after began then
    → MakeKnown name stage.First (stage.Naming number) progress.More did.Quiet old new before after began then
known_made name number old new before after began then b m = record {
  ready = made_there number old new m.log;
  does = making_done name number old new before after began then b.runs m;
  keeps = done_keeps (KeepsAllButLogs old new) _ _ _ old new before after began then b.runs (ap (λ (s : StoreValue _). s.stopped) m.log.same ∙ b.runs) (more_is (reply.Refused refusal.Stopped)) m.disk.unfailed (rest_of m.log.same) (record { stays = m.disk.change.stays; left = λ same. mail_named number.0 before after m.others });
  moves = moves_as no_amounts (amounts_in old) (amounts_in new) (λ uid. due_as_before old new uid map_is (ap (λ (s : StoreValue _). s.dues) m.log.same));
  uids = logs_keep old new map_is (ap (λ (s : StoreValue _). indexes_of s.boxes) m.log.same);
  gone = gone_created number.0 old new map_is (above_drawn old.map.highest.mailbox old.drawn.mailbox number.0 b.store_is.drawn.mailbox m.log.next) m.log.made;
  replies = (m.free, m.log, m.others);
  left = λ e. one_left (nat_lt new.map.highest.mailbox number.0) (ap (λ (s : StoreValue _). nat_lt s.map.highest.mailbox number.0) m.log.same ∙ high_number old.map.highest.mailbox old.drawn.mailbox number.0 b.store_is.drawn.mailbox m.log.next);
}
  where
    map_is : new.map ≡ old.map
    map_is = ap (λ (s : StoreValue _). s.map) m.log.same

    rest_of : new ≡ record (with_drawn_box number.0 old) { disk = new.disk; made = new.made } → KeepsAllButLogs old new
    rest_of same = subst (λ (s : StoreValue _). s ≡ record old { disk = s.disk; map_log = s.map_log; map = s.map; boxes = s.boxes; made = s.made; drawn = s.drawn; stopped = s.stopped }) (sym same) refl

-- it was refused by a check: nothing has changed
known_refused : {D : Type 0} → (name : List ℕ) (why : Refusal) (store : StoreValue D) (history : Option History) (faults : Faults) → MakeBegins name stage.First store history → making_refusal name store ≡ Some why
    → MakeKnown name stage.First stage.First (progress.Done (reply.Refused why)) (did.Step half.Whole) store store history history faults faults
known_refused name why store history faults b refuses = record {
  ready = tt;
  does = making_refused name stage.First store history faults why b.runs refuses;
  keeps = idle_keeps (KeepsAllButLogs store store) _ _ _ store history faults b.runs (λ e. step_runs why (making_steps name store why refuses) (why_is why refusal.Stopped e)) refl;
  moves = moves_as no_amounts (amounts_in store) (amounts_in store) (λ uid. refl);
  uids = same_keeps store store refl;
  gone = gone_same store;
  replies = (not_done.Refused why, refl, (refl, refuses));
  left = λ e. absurd (done_more (reply.Refused why) e);
}

-- out of memory: a number is drawn
known_unremembered : {D : Type 0} → (name : List ℕ) (store : StoreValue D) (history : Option History) (faults : Faults) → MakeBegins name stage.First store history → making_refusal name store ≡ None
    → MakeKnown name stage.First stage.First (progress.Done (reply.Refused refusal.NoMemory)) did.Quiet store (with_drawn_box (store.drawn.mailbox + 1) store) history history faults faults
known_unremembered name store history faults b free = record {
  ready = tt;
  does = making_unremembered name stage.First store history faults b.runs;
  keeps = done_keeps (KeepsAllButLogs store (with_drawn_box (store.drawn.mailbox + 1) store)) _ _ _ store (with_drawn_box (store.drawn.mailbox + 1) store) history history faults faults b.runs b.runs (λ e. memory_runs (why_is refusal.NoMemory refusal.Stopped e)) refl refl (spared_none (store.stopped ≡ store.stopped) history);
  moves = moves_as no_amounts (amounts_in store) (amounts_in store) (λ uid. refl);
  uids = logs_keep store (with_drawn_box (store.drawn.mailbox + 1) store) refl refl;
  gone = gone_stays store (with_drawn_box (store.drawn.mailbox + 1) store) refl refl (omega arith);
  replies = (not_done.NoMemory, refl, (refl, free));
  left = λ e. absurd (done_more (reply.Refused refusal.NoMemory) e);
}

-- a change of the disk failed
known_fell : {D : Type 0} → (name : List ℕ) (old new : StoreValue D) (before after : Option History) (began then : Faults) → MakeBegins name stage.First old before → IsLogNotMade name not_done.Stopped old new → FellChanging same_lists before after began then
    → MakeKnown name stage.First stage.First (progress.Done (reply.Refused refusal.Stopped)) did.Failed old new before after began then
known_fell name old new before after began then b n f = record {
  ready = tt;
  does = making_fell name stage.First old new before after began then b.runs n.0 f;
  keeps = fell_keeps (KeepsAllButLogs old new) _ _ old new before after began then b.runs stops f.change.reads f.change.changes f.rose (rest_of n.0) f.change.stays;
  moves = moves_as no_amounts (amounts_in old) (amounts_in new) (λ uid. due_as_before old new uid (ap (λ (s : StoreValue _). s.map) n.0) (ap (λ (s : StoreValue _). s.dues) n.0));
  uids = logs_keep old new (ap (λ (s : StoreValue _). s.map) n.0) (ap (λ (s : StoreValue _). indexes_of s.boxes) n.0);
  gone = gone_stays old new (ap (λ (s : StoreValue _). s.map.boxes) n.0) (ap (λ (s : StoreValue _). s.made) n.0) (same_highest old.map new.map (ap (λ (s : StoreValue _). s.map) n.0));
  replies = (not_done.Stopped, refl, n);
  left = λ e. absurd (done_more (reply.Refused refusal.Stopped) e);
}
  where
    stops : new.stopped ≡ true
    stops = ap (λ (s : StoreValue _). s.stopped) n.0

    rest_of : new ≡ record (with_drawn_box (old.drawn.mailbox + 1) old) { disk = new.disk; stopped = true } → KeepsAllButLogs old new
    rest_of same = subst (λ (s : StoreValue _). s ≡ record old { disk = s.disk; map_log = s.map_log; map = s.map; boxes = s.boxes; made = s.made; drawn = s.drawn; stopped = s.stopped }) (sym same) refl

abbrev KnownBy : {D : Type 0} → (D → Option History) → (D → Faults) → List ℕ → MakeStage → MakeStage → Progress → Did → StoreValue D → StoreValue D → Type 0
KnownBy history faults name now next answer how old new = MakeKnown name now next answer how old new (history old.disk) (history new.disk) (faults old.disk) (faults new.disk)

known_unmade : {D : Type 0} → (history : D → Option History) (faults : D → Faults) (name : List ℕ) (error : NotDone) (old new : StoreValue D) → MakeBegins name stage.First old (history old.disk) → IsLogNotMade name error old new → FellIfStopped error (history old.disk) (history new.disk) (faults old.disk) (faults new.disk)
    → KnownBy history faults name stage.First stage.First (progress.Done (reply.Refused (refusal_told error))) (told_as half.Whole did.Failed error) old new
known_unmade history faults name (not_done.Refused why) old new b n f = rw n.0 (known_refused name why old (history old.disk) (faults old.disk) b n.1)
known_unmade history faults name not_done.NoMemory old new b n f = rw n.0 (known_unremembered name old (history old.disk) (faults old.disk) b n.1)
known_unmade history faults name not_done.Stopped old new b n f = known_fell name old new (history old.disk) (history new.disk) (faults old.disk) (faults new.disk) b n f

-- ---- the second event

named_so : {D : Type 0} → (name : List ℕ) (number : BoxNo) (store : StoreValue D) (history : Option History) → MakeBegins name (stage.Naming number) store history → CanBeNamed name number.0 store → IsNamedSo name number.0 store
named_so name number store history b can = let m = b.made number.0 b.ready in record { can = can; is_name = b.is_name; is_number = m.0; was_drawn = m.1 }

known_named : {D : Type 0} → (name : List ℕ) (number : BoxNo) (old new : StoreValue D) (before after : Option History) (began then : Faults) → MakeBegins name (stage.Naming number) old before → CanBeNamed name number.0 old → NamesLog number name old new → KeepsMail before after → HasChangedDisk (with_mailbox number.0 name) before after began then
    → MakeKnown name (stage.Naming number) stage.First (progress.Done reply.Done) (did.Step half.Whole) old new before after began then
known_named name number old new before after began then b can n mail d = record {
  ready = tt;
  does = naming_done name number stage.First old new before after began then b.store_is b.runs (named_so name number old before b can) n d;
  keeps = done_keeps (KeepsAllButLogs old new) _ _ _ old new before after began then b.runs (ap (λ (s : StoreValue _). s.stopped) n.same ∙ b.runs) made_stopped d.unfailed (rest_of n.same) (took_spares (new.stopped ≡ old.stopped) before after d.change.stays mail);
  moves = moves_as no_amounts (amounts_in old) (amounts_in new) (λ uid. named_due old new number name uid n);
  uids = naming_keeps before number name old new b.store_is can.above n;
  gone = gone_named number name old new can.above n.map n.made;
  replies = (can.free, can.above, n, mail);
  left = λ e. absurd (done_more reply.Done e);
}
  where
    rest_of : new ≡ record old { disk = new.disk; map_log = new.map_log; map = new.map; boxes = new.boxes; made = new.made } → KeepsAllButLogs old new
    rest_of same = same ∙ ap (λ (s : StoreValue _). record old { disk = new.disk; map_log = new.map_log; map = new.map; boxes = new.boxes; made = new.made; drawn = s.drawn; stopped = s.stopped }) (sym same)

-- the log was removed: what every answer says
pub record RemovedKnown {D : Type 0} (now : MakeStage) (old new : StoreValue D) (before after : Option History) : Type 0 where
  pub moves : Moves no_amounts no_amounts (amounts_in old) (amounts_in new)
  pub uids : KeepsUids old new
  pub gone : KeepsGone old new
  pub rest : KeepsAllButLogs old new
  pub mail : SyncsMail before after
  pub runs : new.stopped ≡ old.stopped

removed_known : {D : Type 0} → (number : BoxNo) (old new : StoreValue D) (before after : Option History) (began then : Faults) → RemovesLog number.0 old new before after → HasChangedDisk same_lists before after began then → RemovedKnown (stage.Naming number) old new before after
removed_known number old new before after began then r d = record {
  moves = moves_as no_amounts (amounts_in old) (amounts_in new) (λ uid. due_as_before old new uid map_is (ap (λ (s : StoreValue _). s.dues) r.same));
  uids = logs_keep old new map_is (ap (λ (s : StoreValue _). indexes_of s.boxes) r.same);
  gone = gone_removed number.0 old new map_is (ap (λ (s : StoreValue _). s.made) r.same);
  rest = rest_of r.same;
  mail = mail_named number.0 before after r.others;
  runs = ap (λ (s : StoreValue _). s.stopped) r.same;
}
  where
    map_is : new.map ≡ old.map
    map_is = ap (λ (s : StoreValue _). s.map) r.same

    rest_of : new ≡ record old { disk = new.disk; made = without_box number.0 old.made } → KeepsAllButLogs old new
    rest_of same = subst (λ (s : StoreValue _). s ≡ record old { disk = s.disk; map_log = s.map_log; map = s.map; boxes = s.boxes; made = s.made; drawn = s.drawn; stopped = s.stopped }) (sym same) refl

-- and it is answered by what it was refused, or that it is out of memory
known_removed : {D : Type 0} → (name : List ℕ) (number : BoxNo) (why : Refusal) (how : Did) (old new : StoreValue D) (before after : Option History) (began then : Faults) → MakeBegins name (stage.Naming number) old before → RemovesLog number.0 old new before after → HasChangedDisk same_lists before after began then
    → (why ≡ refusal.Stopped → ⊥) → (naming_refusal name old ≡ Some why) ⊎ ((naming_refusal name old ≡ None) × (old.map.highest.mailbox < number.0) × (why ≡ refusal.NoMemory))
    → MakeClause name (stage.Naming number) stage.First old new before after began then how (Some (reply.Refused why)) → MakeKnown name (stage.Naming number) stage.First (progress.Done (reply.Refused why)) how old new before after began then
known_removed name number why how old new before after began then b r d running cause does =
    let k = removed_known number old new before after began then r d in record {
      ready = tt;
      does = does;
      keeps = done_keeps (KeepsAllButLogs old new) _ _ _ old new before after began then b.runs (k.runs ∙ b.runs) (λ e. running (why_is why refusal.Stopped e)) d.unfailed k.rest (record { stays = d.change.stays; left = λ same. k.mail });
      moves = k.moves;
      uids = k.uids;
      gone = k.gone;
      replies = (r, cause);
      left = λ e. absurd (done_more (reply.Refused why) e);
    }

not_above : (highest number : ℕ) → number ≤ highest → nat_lt highest number ≡ false
not_above highest number l = grind (arith, common_steps, l)

two_left : (b : Bool) → b ≡ false → 2 < cond b 1 3
two_left b e = grind (arith, common_steps, nat_tests)

-- the request begins anew
known_overtaken : {D : Type 0} → (name : List ℕ) (number : BoxNo) (old new : StoreValue D) (before after : Option History) (began then : Faults) → MakeBegins name (stage.Naming number) old before → naming_refusal name old ≡ None → number.0 ≤ old.map.highest.mailbox → RemovesLog number.0 old new before after
    → HasChangedDisk same_lists before after began then → MakeKnown name (stage.Naming number) stage.First progress.More did.Quiet old new before after began then
known_overtaken name number old new before after began then b free behind_it r d =
    let k = removed_known number old new before after began then r d in record {
      ready = tt;
      does = naming_overtaken name number old new before after began then b.runs free behind_it r d;
      keeps = done_keeps (KeepsAllButLogs old new) _ _ _ old new before after began then b.runs (k.runs ∙ b.runs) (more_is (reply.Refused refusal.Stopped)) d.unfailed k.rest (record { stays = d.change.stays; left = λ same. k.mail });
      moves = k.moves;
      uids = k.uids;
      gone = k.gone;
      replies = (free, behind_it, r);
      left = λ e. two_left (nat_lt old.map.highest.mailbox number.0) (not_above old.map.highest.mailbox number.0 behind_it);
    }

-- a change of the disk failed
known_stopped : {D : Type 0} → (name : List ℕ) (number : BoxNo) (how : Did) (left : Lists → Lists) (old new : StoreValue D) (before after : Option History) (began then : Faults) → MakeBegins name (stage.Naming number) old before → IsStoppedSo old new → FellChanging left before after began then
    → MakeClause name (stage.Naming number) (stage.Naming number) old new before after began then how (Some (reply.Refused refusal.Stopped))
    → MakeKnown name (stage.Naming number) (stage.Naming number) (progress.Done (reply.Refused refusal.Stopped)) how old new before after began then
known_stopped name number how left old new before after began then b same f does = record {
  ready = ap (λ (s : StoreValue _). has_made_log number.0 s) same ∙ b.ready;
  does = does;
  keeps = fell_keeps (KeepsAllButLogs old new) _ _ old new before after began then b.runs stops f.change.reads f.change.changes f.rose (rest_of same) f.change.stays;
  moves = moves_as no_amounts (amounts_in old) (amounts_in new) (λ uid. due_as_before old new uid (ap (λ (s : StoreValue _). s.map) same) (ap (λ (s : StoreValue _). s.dues) same));
  uids = logs_keep old new (ap (λ (s : StoreValue _). s.map) same) (ap (λ (s : StoreValue _). indexes_of s.boxes) same);
  gone = gone_stays old new (ap (λ (s : StoreValue _). s.map.boxes) same) (ap (λ (s : StoreValue _). s.made) same) (same_highest old.map new.map (ap (λ (s : StoreValue _). s.map) same));
  replies = (refl, refl, same);
  left = λ e. absurd (done_more (reply.Refused refusal.Stopped) e);
}
  where
    stops : new.stopped ≡ true
    stops = ap (λ (s : StoreValue _). s.stopped) same

    rest_of : IsStoppedSo old new → KeepsAllButLogs old new
    rest_of is = subst (λ (s : StoreValue _). s ≡ record old { disk = s.disk; map_log = s.map_log; map = s.map; boxes = s.boxes; made = s.made; drawn = s.drawn; stopped = s.stopped }) (sym is) refl

-- ---- any event

known_by : {D : Type 0} → (history : D → Option History) (faults : D → Faults) (name : List ℕ) (now next : MakeStage) (answer : Progress) (how : Did) (old new : StoreValue D) → MakeBegins name now old (history old.disk) → MakesOn name now next answer how old new (history old.disk) (history new.disk) (faults old.disk) (faults new.disk)
    → KnownBy history faults name now next answer how old new
known_by history faults name stage.First (stage.Naming number) progress.More how old new b on = rw on.0 (known_made name number old new (history old.disk) (history new.disk) (faults old.disk) (faults new.disk) b on.1)
known_by history faults name stage.First stage.First (progress.Done (reply.Refused why)) how old new b on = rw (on.2, on.1) (known_unmade history faults name on.0 old new b on.3 on.4)
known_by history faults name (stage.Naming number) stage.First (progress.Done reply.Done) how old new b on = rw on.0 (known_named name number old new (history old.disk) (history new.disk) (faults old.disk) (faults new.disk) b on.1 on.2 on.3 on.4)
known_by history faults name (stage.Naming number) stage.First progress.More how old new b on = rw on.0 (known_overtaken name number old new (history old.disk) (history new.disk) (faults old.disk) (faults new.disk) b on.1 on.2 on.3 on.4)
known_by history faults name (stage.Naming number) stage.First (progress.Done (reply.Refused why)) how old new b on = by_cause on.2
  where
    before : Option History
    before = history old.disk

    after : Option History
    after = history new.disk

    by_cause : ((how ≡ did.Step half.Whole) × (naming_refusal name old ≡ Some why)) ⊎ ((how ≡ did.Quiet) × CanBeNamed name number.0 old × (why ≡ refusal.NoMemory)) → KnownBy history faults name (stage.Naming number) stage.First (progress.Done (reply.Refused why)) how old new
    by_cause (inl e) = rw e.0 (known_removed name number why (did.Step half.Whole) old new before after (faults old.disk) (faults new.disk) b on.0 on.1 (step_runs why (naming_steps name old why e.1)) (inl e.1) (naming_refused name number stage.First old new before after (faults old.disk) (faults new.disk) why b.runs e.1 on.0 on.1))
    by_cause (inr e) = rw (e.0, e.2) (known_removed name number refusal.NoMemory did.Quiet old new before after (faults old.disk) (faults new.disk) b on.0 on.1 memory_runs (inr (e.1.free, e.1.above, refl)) (naming_unremembered name number stage.First old new before after (faults old.disk) (faults new.disk) b.runs e.1 on.0 on.1))
known_by history faults name (stage.Naming number) (stage.Naming still) (progress.Done (reply.Refused why)) how old new b on = rw (on.1, on.0) (by_cause on.3)
  where
    before : Option History
    before = history old.disk

    after : Option History
    after = history new.disk

    by_cause : ((how ≡ did.Failed) × FellChanging same_lists before after (faults old.disk) (faults new.disk)) ⊎ ((how ≡ did.Broken half.Whole) × CanBeNamed name number.0 old × FellChanging (with_mailbox number.0 name) before after (faults old.disk) (faults new.disk))
        → KnownBy history faults name (stage.Naming number) (stage.Naming number) (progress.Done (reply.Refused refusal.Stopped)) how old new
    by_cause (inl e) = rw e.0 (known_stopped name number did.Failed same_lists old new before after (faults old.disk) (faults new.disk) b on.2 e.1 (removing_fell name number (stage.Naming number) old new before after (faults old.disk) (faults new.disk) b.runs on.2 e.1))
    by_cause (inr e) = rw e.0 (known_stopped name number (did.Broken half.Whole) (with_mailbox number.0 name) old new before after (faults old.disk) (faults new.disk) b on.2 e.2 (naming_fell name number (stage.Naming number) old new before after (faults old.disk) (faults new.disk) b.store_is b.runs (named_so name number old before b e.1) on.2 e.2))
known_by history faults name now next answer how old new b on = absurd on

-- Of a task that is seen as this.
pub make_known_by : {D : Type 0} → (history : D → Option History) (faults : D → Faults) (task seen : MakeValue) (next : MakeStage) (answer : Progress) (how : Did) (old new : StoreValue D) → task ≡ seen → IsStore (history old.disk) old → old.stopped ≡ false → IsName task.name → IsReadyToMake seen.stage old
    → ((number : ℕ) → has_made_log number old ≡ true → IsNumber number × (number ≤ old.drawn.mailbox) × IsUnnamed number old.map) → MakesOn task.name task.stage next answer how old new (history old.disk) (history new.disk) (faults old.disk) (faults new.disk)
    → KnownBy history faults seen.name seen.stage next answer how old new
make_known_by history faults task seen next answer how old new same is runs is_name ready made on =
    subst (λ (v : MakeValue). KnownBy history faults v.name v.stage next answer how old new) same
    (known_by history faults task.name task.stage next answer how old new (record { store_is = is; runs = runs; is_name = is_name; ready = subst (λ (v : MakeValue). IsReadyToMake v.stage old) (sym same) ready; made = made }) on)

-- Of one whose store was stopped.
stopped_at : {D : Type 0} → (name : List ℕ) (now next : MakeStage) (store : StoreValue D) (history : Option History) (faults : Faults) → store.stopped ≡ true → MakeClause name now next store store history history faults faults did.Quiet (Some (reply.Refused refusal.Stopped))
stopped_at name stage.First next store history faults stopped = first_stopped name next store history faults stopped
stopped_at name (stage.Naming number) next store history faults stopped = naming_stopped name number next store history faults stopped

pub make_stopped : {D : Type 0} → (task seen : MakeValue) (store : StoreValue D) (history : Option History) (faults : Faults) → task ≡ seen → store.stopped ≡ true → MakeClause seen.name seen.stage task.stage store store history history faults faults did.Quiet (Some (reply.Refused refusal.Stopped))
make_stopped task seen store history faults same stopped =
    subst (λ (v : MakeValue). MakeClause v.name v.stage task.stage store store history history faults faults did.Quiet (Some (reply.Refused refusal.Stopped))) same (stopped_at task.name task.stage task.stage store history faults stopped)
