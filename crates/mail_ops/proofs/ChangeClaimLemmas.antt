-- A deletion and a renaming claim nothing, and leave to the tasks beside them what is theirs.
use Rattle.mail_ops.proofs.Common.{◌≡◌, ◌≤◌, ◌<◌, ◌⊎◌, ℕ, false, List, Option, refl, sym, ◌∙◌, ap, subst, arith, inl, inr, History, BoxNo, Progress, Reply, MapMeaning, MapRecord, BoxMeaning, refs_in, due_at, KeepsRest, KeepsUids, StoreValue, indexes_of, no_claims, NamesStay, SyncsMail, names_stay_same, fall}
use Rattle.gate_log.specs.State.{LogState}
use Rattle.mdbox_base.specs.declared.entries.MapEntry.TheVariants as map_entry
use Rattle.mdbox_base.specs.declared.progress.Progress.TheVariants as progress
use Rattle.mdbox_base.specs.declared.replies.Refusal.TheVariants as refusal
use Rattle.mdbox_base.specs.declared.replies.Reply.TheVariants as reply
use Rattle.store_core.specs.Dues.{number_beside}
use Rattle.store_core.specs.MadeLogs.{KeepsGone}
use Rattle.task_claims.specs.Leaving.{LeavesUnlisted, RaisesNone, SameButCounts}
use Rattle.task_claims.specs.Stable.{IsStable, MovesOwnClaims}
use Rattle.task_claims.proofs.CountedLemmas.{deleted_same, renamed_same, same_map, unraised_deleted, unraised_same}
use Rattle.task_claims.proofs.RestLemmas.{rest_amounts, rest_leaves, same_claims}
use Rattle.model_meaning.proofs.AppliedLemmas.{records_by_renamed}
use Rattle.mail_ops.specs.Deleting.{DeleteAnswers, DeletesBox, IsReadyToDelete}
use Rattle.mail_ops.specs.Renaming.{RenameAnswers, RenamesBox}
use Rattle.mail_ops.specs.declared.deleting.DeleteStage.{DeleteStage}
use Rattle.mail_ops.specs.declared.deleting.DeleteStage.TheVariants as stage
use Rattle.mail_ops.proofs.DeleteListLemmas.{refs_without}
use Rattle.mail_ops.proofs.KeptUidLemmas.{highest_rises, same_highest}

-- What has changed of records, listings and names, where the store wasn't stopped.
pub record ChangedLogs {D : Type 0} (old new : StoreValue D) : Type 0 where
  pub same : SameButCounts old.map new.map
  pub unraised : RaisesNone old.map new.map
  pub mailboxes : old.map.highest.mailbox ≤ new.map.highest.mailbox
  pub end : old.map_log.end ≤ new.map_log.end
  pub names : NamesStay old.map new.map ⊎ (old.map_log.end < new.map_log.end)
  pub room : old.map_log.room ≤ new.map_log.room
  pub unlisted : LeavesUnlisted no_claims old new
  pub due : (uid : ℕ) → due_at uid new ≡ due_at uid old

-- no more than that has
pub owns_nothing : {D : Type 0} → (answer : Progress) (old new : StoreValue D) (before after : Option History) → ChangedLogs old new → KeepsRest old new → SyncsMail before after → KeepsUids old new → KeepsGone old new → MovesOwnClaims no_claims no_claims answer old new before after
owns_nothing answer old new before after c rest mail uids gone = record {
  moves = same_claims no_claims old new (rest_amounts old new c.due rest);
  leaves = rest_leaves no_claims old new before after (ap (λ (v : StoreValue _). v.files) rest) (ap (λ (v : StoreValue _). v.instances) rest) mail c.same c.unraised c.mailboxes c.end c.names gone uids c.room c.unlisted;
  ended = λ given is thing. refl;
}

-- ---- what has changed

-- no log means anything else
no_less : (a b : LogState) → b ≡ a → (a.end ≤ b.end) × (a.room ≤ b.room)
no_less a b same = subst (λ (l : LogState). (a.end ≤ l.end) × (a.room ≤ l.room)) (sym same) (omega arith, omega arith)

none_changed : {D : Type 0} → (old new : StoreValue D) → new.map ≡ old.map → new.map_log ≡ old.map_log → indexes_of new.boxes ≡ indexes_of old.boxes → new.dues ≡ old.dues → ChangedLogs old new
none_changed old new map_is log indexes dues =
    let due : (uid : ℕ) → due_at uid new ≡ due_at uid old = λ uid. ap (λ (m : MapMeaning). number_beside uid m.records new.dues) map_is ∙ ap (λ (ds : List ℕ). number_beside uid old.map.records ds) dues in
    let l = no_less old.map_log new.map_log log in
    record {
      same = same_map old.map new.map map_is;
      unraised = unraised_same old.map new.map (ap (λ (m : MapMeaning). m.records) map_is);
      mailboxes = same_highest old.map new.map map_is;
      end = l.0;
      names = inl (names_stay_same old.map new.map map_is);
      room = l.1;
      unlisted = λ uid row none there listed. (ap (λ (ms : List BoxMeaning). refs_in ms row.guid) indexes ∙ listed, due uid);
      due = due;
    }

same_changed : {D : Type 0} → (old new : StoreValue D) → new ≡ old → ChangedLogs old new
same_changed old new same = none_changed old new (ap (λ (v : StoreValue _). v.map) same) (ap (λ (v : StoreValue _). v.map_log) same) (ap (λ (v : StoreValue _). indexes_of v.boxes) same) (ap (λ (v : StoreValue _). v.dues) same)

risen : {D : Type 0} → (old new : StoreValue D) → old.map_log.end < new.map_log.end → old.map_log.end ≤ new.map_log.end
risen old new further = omega (arith, further)

-- a mailbox has left
box_deleted : {D : Type 0} → (name : List ℕ) (number : BoxNo) (generation : ℕ) (old new : StoreValue D) → DeletesBox name number generation old new → ChangedLogs old new
box_deleted name number generation old new b = record {
  same = subst (λ (m : MapMeaning). SameButCounts old.map m) (sym b.map) (deleted_same number b.amounts old.map);
  unraised = subst (λ (m : MapMeaning). RaisesNone old.map m) (sym b.map) (unraised_deleted number b.amounts old.map);
  mailboxes = subst (λ (m : MapMeaning). old.map.highest.mailbox ≤ m.highest.mailbox) (sym b.map) (highest_rises (map_entry.X number b.amounts) old.map);
  end = risen old new b.further;
  names = inr b.further;
  room = b.room;
  unlisted = λ uid row none there listed. (ap (λ (ms : List BoxMeaning). refs_in ms row.guid) b.indexes ∙ refs_without number.0 old.map.boxes (indexes_of old.boxes) row.guid listed, b.due uid);
  due = b.due;
}

pub delete_changes : {D : Type 0} → (name : List ℕ) (now next : DeleteStage) (answer : Progress) (old new : StoreValue D) (before after : Option History) → new.stopped ≡ false → DeleteAnswers name now old new before after next answer → ChangedLogs old new
delete_changes name stage.First (stage.RemovingLog number generation) progress.More old new before after runs a = box_deleted name number generation old new a.1
delete_changes name stage.First stage.First (progress.Done (reply.Refused refusal.Stopped)) old new before after runs a = absurd (fall new.stopped (ap (λ (v : StoreValue _). v.stopped) a.1) runs)
delete_changes name stage.First stage.First (progress.Done (reply.Refused why)) old new before after runs a = same_changed old new a.0
delete_changes name (stage.RemovingLog number generation) stage.First (progress.Done reply.Done) old new before after runs a =
    none_changed old new (ap (λ (v : StoreValue _). v.map) a.same) (ap (λ (v : StoreValue _). v.map_log) a.same) (ap (λ (v : StoreValue _). indexes_of v.boxes) a.same) (ap (λ (v : StoreValue _). v.dues) a.same)
delete_changes name (stage.RemovingLog number generation) (stage.RemovingLog still same) (progress.Done (reply.Refused why)) old new before after runs a = absurd (fall new.stopped (ap (λ (v : StoreValue _). v.stopped) a.3) runs)
delete_changes name now next answer old new before after runs a = absurd a

-- a mailbox has another name
box_renamed : {D : Type 0} → (name target : List ℕ) (old new : StoreValue D) → RenamesBox name target old new → ChangedLogs old new
box_renamed name target old new b =
    let records : new.map.records ≡ old.map.records = ap (λ (m : MapMeaning). m.records) b.map ∙ records_by_renamed b.number target old.map.records in
    let due : (uid : ℕ) → due_at uid new ≡ due_at uid old = λ uid. ap (λ (rows : List MapRecord). number_beside uid rows new.dues) records ∙ ap (λ (v : StoreValue _). number_beside uid old.map.records v.dues) b.same in
    record {
      same = subst (λ (m : MapMeaning). SameButCounts old.map m) (sym b.map) (renamed_same b.number target old.map);
      unraised = unraised_same old.map new.map records;
      mailboxes = subst (λ (m : MapMeaning). old.map.highest.mailbox ≤ m.highest.mailbox) (sym b.map) (highest_rises (map_entry.V b.number target) old.map);
      end = risen old new b.further;
      names = inr b.further;
      room = b.room;
      unlisted = λ uid row none there listed. (ap (λ (v : StoreValue _). refs_in (indexes_of v.boxes) row.guid) b.same ∙ listed, due uid);
      due = due;
    }

pub rename_changes : {D : Type 0} → (name target : List ℕ) (given : Reply) (old new : StoreValue D) (before after : Option History) → new.stopped ≡ false → RenameAnswers name target old new before after given → ChangedLogs old new
rename_changes name target reply.Done old new before after runs a = box_renamed name target old new a.1
rename_changes name target (reply.Refused refusal.Stopped) old new before after runs a = absurd (fall new.stopped (ap (λ (v : StoreValue _). v.stopped) a.1) runs)
rename_changes name target (reply.Refused why) old new before after runs a = same_changed old new a.0
rename_changes name target given old new before after runs a = absurd a

-- ---- beside other tasks

-- the number of a deleted mailbox stays no other's
pub delete_stable : {D : Type 0} → (now : DeleteStage) → IsStable {D = D} no_claims (λ store history. IsReadyToDelete now store)
delete_stable stage.First old new before after b ready = tt
delete_stable (stage.RemovingLog number generation) old new before after b ready = b.leaves.gone number.0 ready
