-- A whole rebuild: what a crash leaves at each moment, and what is there at the end.
use Rattle.std.proofs.Common.{inr, ◌≡◌, ◌≢◌, inl, ℕ, List, [], ◌∷◌, map, All, Option, Some, None, Result, Ok, Err, refl, sym, ◌∙◌, ap, subst}
use Rattle.std.proofs.lemmas.Bool.{cond-true}
use Rattle.std.proofs.lemmas.List.Elements.{All-nil, All-cons, All-head, All-tail, All-weaker}
use Rattle.disk_model.specs.Disk.{Between, DiskState, EachImage, FileState, History, IfTold, IsIdle, IsImage, IsThere, Keeps, named, reading}
use Rattle.disk_model.specs.Name.{IsLogName}
use Rattle.disk_model.specs.declared.name.FileName.{FileName}
use Rattle.disk_model.specs.declared.name.FileName.TheVariants as file
use Rattle.disk_model.proofs.BetweenLemmas.{between-map, between-then}
use Rattle.disk_model.proofs.IdleLemmas.{idle-images}
use Rattle.disk_model.proofs.MomentLemmas.{each_image-map, each_image-then, if_told-all, if_told-map, since-now}
use Rattle.mdbox_base.specs.declared.entries.InstRow.{InstRow}
use Rattle.model_rebuild.specs.RebuildMoments.{IsBeforeLogs, IsLeftByRebuild, IsOldButForRoot, KeepsMessage, KeepsOld}
use Rattle.model_rebuild.specs.RebuildPlan.{IsPlanFor, RebuildPlan}
use Rattle.model_rebuild.specs.RebuiltLists.{lists_of}
use Rattle.model_store.specs.Safe.{IsThereWhole}
use Rattle.model_store.specs.Settled.{files_of}
use Rattle.model_taken.proofs.GoodListLemmas.{IsStored}
use Rattle.model_taken.proofs.GoodRebuildLemmas.{rebuild_good}
use Rattle.model_taken.specs.Taken.{TakenMessage}
use Rattle.std.specs.Prelude.{IfErr}
use Rattle.rebuild_files.specs.Refused.{IsStoreWhole}
use Rattle.rebuild_files.specs.declared.error.RebuildError.{RebuildError}
use Rattle.rebuild_files.specs.declared.error.RebuildError.TheVariants as rebuild
use Rattle.rebuild_judge.specs.Kept.{taken_row}
use Rattle.rebuild_judge.specs.declared.taken.TakenRow.{TakenRow}
use Rattle.store_rebuild.specs.Planned.{AreRowsOf, IsPlanned}
use Rattle.store_rebuild.specs.Rebuilding.{IsLeftOf, LeavesRebuild, LeavesWhole, ReadsAsRebuildLeaves}
use Rattle.store_rebuild.specs.Writing.{AreFilesSynced, AreFilesThere, HasNewStore, HasStoreOf, IsInstanceThere, IsNewLog, IsOnlySynced, IsReady, IsRootless, IsFileSynced, MailReadsSame, OthersReadSame}
use Rattle.store_rebuild.specs.declared.plan.RebuildRows.{RebuildRows}
use Rattle.store_rebuild.proofs.FileLemmas.{named_reads, synced_keeps}
use Rattle.store_rebuild.proofs.PlannedLemmas.{there_from}

-- ---- files are there

inst_there : (disk : DiskState) (i : InstRow) → IsThereWhole (files_of disk) i → IsInstanceThere disk i
inst_there disk i w = there_from (disk (file.Inst i.hash.0 i.id.0)) w.octets w.there

row_there : (disk : DiskState) (t : TakenMessage) → IsStored (files_of disk) t → AreFilesThere disk (taken_row t)
row_there disk t s = record {
  number = s.number;
  storage = let k = (s.stores 1).stored in there_from (disk (file.Mail t.file)) k.octets_there k.there;
  instances = All-weaker (IsThereWhole (files_of disk)) (IsInstanceThere disk) (inst_there disk) t.instances s.instances;
}

rows_there : (disk : DiskState) (taken : List TakenMessage) → All (IsStored (files_of disk)) taken → All (AreFilesThere disk) (map taken_row taken)
rows_there disk [] s = All-nil (AreFilesThere disk)
rows_there disk (t ∷ taken) s = All-cons (AreFilesThere disk) (taken_row t) (map taken_row taken) (row_there disk t (All-head (IsStored (files_of disk)) t taken s)) (rows_there disk taken (All-tail (IsStored (files_of disk)) t taken s))

pub planned_there : (store : List ℕ) (rows : RebuildRows) (taken : List TakenRow) (h : Option History) → taken ≡ rows.taken → IfTold h (IsPlanned store rows) → IfTold h (λ disk. All (AreFilesThere disk) taken)
planned_there store rows taken None e p = tt
planned_there store rows taken (Some h) e p =
    subst (λ (ts : List TakenRow). All (AreFilesThere h.now) ts) (sym (e ∙ p.rows_are.taken))
    (rows_there h.now p.plan.taken (rebuild_good (files_of h.now) p.plan.taken p.plan.skipped p.is_plan.rebuild).stored)

-- ---- files are durable

-- a file that was synced, once its name is synced
file_durable : (first synced now : DiskState) (name : FileName) → reading (synced name) ≡ reading (first name) → now name ≡ named (synced name) → IsImage synced (files_of synced) → IsFileSynced (synced name) → KeepsOld first now name
file_durable first synced now name same is image s = record {
  octets = (synced name).octets;
  read = sym same ∙ reading_there (synced name) s.there;
  keeps = subst (λ (f : FileState). Keeps f (synced name).octets) (sym is) (synced_keeps (synced name) s (image name));
}
  where
    reading_there : (f : FileState) → IsThere f → reading f ≡ Some f.octets
    reading_there f there = cond-true f.is_there (Some f.octets) None there

-- files but the root log have their names synced
abbrev ButRoot : DiskState → DiskState → Type 0
ButRoot a b = (name : FileName) → name ≢ file.Root → b name ≡ named (a name)

mail_no_root : (n : ℕ) → file.Mail n ≢ file.Root
mail_no_root n e = let h : file.Mail n ≡ file.Root = e in cc h

inst_no_root : (hash id : List ℕ) → file.Inst hash id ≢ file.Root
inst_no_root hash id e = let h : file.Inst hash id ≡ file.Root = e in cc h

message_durable : (first synced now : DiskState) → IsOnlySynced first synced → ButRoot synced now → IsImage synced (files_of synced) → (t : TakenMessage) → AreFilesSynced synced (taken_row t) → KeepsMessage first now t
message_durable first synced now same is image t s = record {
  storage = file_durable first synced now (file.Mail t.file) (same.reads (file.Mail t.file)) (is (file.Mail t.file) (mail_no_root t.file)) image s.storage;
  instances = All-weaker (λ (i : InstRow). IsFileSynced (synced (file.Inst i.hash.0 i.id.0))) (λ (i : InstRow). KeepsOld first now (file.Inst i.hash.0 i.id.0))
      (λ i k. file_durable first synced now (file.Inst i.hash.0 i.id.0) (same.reads (file.Inst i.hash.0 i.id.0)) (is (file.Inst i.hash.0 i.id.0) (inst_no_root i.hash.0 i.id.0)) image k) t.instances s.instances;
}

messages_durable : (first synced now : DiskState) → IsOnlySynced first synced → ButRoot synced now → IsImage synced (files_of synced) → (taken : List TakenMessage) → All (AreFilesSynced synced) (map taken_row taken) → All (KeepsMessage first now) taken
messages_durable first synced now same is image [] s = All-nil (KeepsMessage first now)
messages_durable first synced now same is image (t ∷ taken) s =
    All-cons (KeepsMessage first now) t taken (message_durable first synced now same is image t (All-head (AreFilesSynced synced) (taken_row t) (map taken_row taken) s)) (messages_durable first synced now same is image taken (All-tail (AreFilesSynced synced) (taken_row t) (map taken_row taken) s))

-- nothing but the new logs is missing
pub ready_then : (store : List ℕ) (plan : RebuildPlan) (rows : List TakenRow) (first : DiskState) (before : List DiskState) (synced now : Option History) → IsPlanFor (files_of first) store plan → rows ≡ map taken_row plan.taken
    → Between IsOnlySynced (Some (record { now = first; before = before })) synced → IfTold synced (λ disk. All (AreFilesSynced disk) rows) → IfTold synced (λ disk. IsImage disk (files_of disk)) → Between ButRoot synced now → IfTold now (IsRootless first) → IfTold now (IsReady store plan first)
ready_then store plan rows first before None now is e same s image but rootless = elim same [ ]
ready_then store plan rows first before (Some synced) None is e same s image but rootless = elim but [ ]
ready_then store plan rows first before (Some synced) (Some now) is e same s image but rootless = record {
  is_plan = is;
  rootless = rootless;
  messages = messages_durable first synced.now now.now same but image plan.taken (subst (λ (rs : List TakenRow). All (AreFilesSynced synced.now) rs) e s);
}

-- ---- what a crash leaves

pub before_itself : (disk : DiskState) → IsBeforeLogs disk disk
before_itself disk = (λ name apart image h. h, λ image h. inl h)

-- while files are synced and the root log is removed
abbrev OldMoments : Option History → Option History → Type 0
OldMoments old new = (first : DiskState) → IfTold old (IsBeforeLogs first) → EachImage (λ _ image. IsOldButForRoot first image) old new

pub old_moments : (old new : Option History) → OldMoments old new → LeavesRebuild old new
old_moments None new each = tt
old_moments (Some old) new each = each_image-map _ _ (Some old) new (λ m image is. inl is) (each old.now (before_itself old.now))

pub moments_then : (old now new : Option History) → OldMoments old now → ((first : DiskState) → IfTold old (IsBeforeLogs first) → IfTold now (IsBeforeLogs first)) → OldMoments now new → OldMoments old new
moments_then old now new first_each stays each = λ first b. each_image-then _ old now new (first_each first b) (each first (stays first b))

-- while nothing changes
pub idle_leaves : (old new : Option History) → IsIdle old new → LeavesRebuild old new
idle_leaves None new idle = tt
idle_leaves (Some old) new idle = idle-images (IsLeftOf old.now) (Some old) new idle (λ image is. inl ((λ name apart. is name), inl (is file.Root)))

pub err_idle : {T : Type 0} → (r : Result T RebuildError) (old new : Option History) → IsIdle old new → IfErr r (λ error. (error ≡ rebuild.DiskFault → ⊥) → IsIdle old new)
err_idle (Ok v) old new idle = tt
err_idle (Err e) old new idle = λ other. idle

-- and then what a rebuild of the same files leaves
pub leaves_behind : (old now new : Option History) → IsIdle old now → LeavesRebuild now new → LeavesRebuild old new
leaves_behind None now new idle leaves = tt
leaves_behind (Some old) None new idle leaves = elim idle.same [ ]
leaves_behind (Some old) (Some now) new idle leaves =
    each_image-then _ (Some old) (Some now) new (idle_leaves (Some old) (Some now) idle) (subst (λ (d : DiskState). EachImage (λ _ image. IsLeftOf d image) (Some now) new) idle.same leaves)

-- while the logs are written too
pub all_moments : (store : List ℕ) (rows : RebuildRows) (old mid now new : Option History) → IfTold old (IsPlanned store rows) → OldMoments old mid → ((first : DiskState) → IfTold old (IsBeforeLogs first) → IfTold mid (IsBeforeLogs first)) → OldMoments mid now
    → ((first : DiskState) (before : List DiskState) (plan : RebuildPlan) → old ≡ Some (record { now = first; before = before }) → IsPlanFor (files_of first) store plan → AreRowsOf plan rows → EachImage (λ _ image. IsLeftByRebuild first (lists_of plan.taken) image) now new) → LeavesRebuild old new
all_moments store rows None mid now new planned sync stays root write = tt
all_moments store rows (Some old) mid now new planned sync stays root write =
    each_image-then _ (Some old) now new (old_moments (Some old) now (moments_then (Some old) mid now sync stays root))
    (each_image-map _ _ now new (λ m image is. inr (planned.plan.taken, planned.plan.skipped, planned.is_plan.rebuild, is)) (write old.now old.before planned.plan refl planned.is_plan planned.rows_are))

-- ---- what is there at the end

pub others_read : (map_generation box_generation : ℕ) (old mid now new : Option History) → Between IsOnlySynced old mid → Between ButRoot mid now → Between (OthersReadSame map_generation box_generation) now new → Between (OthersReadSame map_generation box_generation) old new
others_read m b old mid now new s r w =
    let R : DiskState → DiskState → Type 0 = OthersReadSame m b in
    between-then R R R old now new (λ x y z p q name outside. q name outside ∙ p name outside)
    (between-then R R R old mid now (λ x y z p q name outside. q name outside ∙ p name outside) (between-map IsOnlySynced R old mid (λ x y k name outside. k.reads name) s)
    (between-map ButRoot R mid now (λ x y k name outside. ap reading (k name (λ e. outside (inl e))) ∙ named_reads (x name)) r)) w

pub mail_of_others : (map_generation box_generation : ℕ) (a b : DiskState) → OthersReadSame map_generation box_generation a b → MailReadsSame a b
mail_of_others m g a b o = λ name mail. o name (λ new. mail (is_log name new))
  where
    is_log : (name : FileName) → IsNewLog m g name → IsLogName name
    is_log name (inl e) = subst IsLogName (sym e) refl
    is_log name (inr (inl e)) = subst IsLogName (sym e) refl
    is_log name (inr (inr box)) = subst IsLogName (sym box.1) refl

-- a fact of the last state by the first
pub between_from : (R S : DiskState → DiskState → Type 0) (old new : Option History) → Between R old new → ((first : DiskState) (before : List DiskState) → old ≡ Some (record { now = first; before = before }) → IfTold new (S first)) → Between S old new
between_from R S None new r f = r
between_from R S (Some old) None r f = r
between_from R S (Some old) (Some new) r f = f old.now old.before refl

pub store_of : (store : List ℕ) (rows : RebuildRows) (first : DiskState) (new : Option History) → ((plan : RebuildPlan) → IsPlanFor (files_of first) store plan → AreRowsOf plan rows → IfTold new (HasNewStore store plan first)) → IfTold new (HasStoreOf store rows first)
store_of store rows first None f = tt
store_of store rows first (Some new) f = λ plan is r. f plan is r

-- ---- a store that opens

pub idle_whole : (old new : Option History) → IsIdle old new → LeavesWhole old new
idle_whole old new idle = if_told-all _ old (λ disk w. idle)

pub lost_whole : (old new : Option History) → IfTold old (λ disk. IsStoreWhole (files_of disk) → ⊥) → LeavesWhole old new
lost_whole old new lost = if_told-map _ _ old (λ disk none w. absurd (none w)) lost

-- What holds of each crash image holds of what the disk reads, since that is one.
pub reads_left : (old new : Option History) → LeavesRebuild old new → IfTold new (λ state. IsImage state (λ name. reading (state name))) → ReadsAsRebuildLeaves old new
reads_left None new each reads = tt
reads_left (Some o) None each reads = tt
reads_left (Some o) (Some n) each reads = since-now (λ _ image. IsLeftOf o.now image) o n each (files_of n.now) reads
