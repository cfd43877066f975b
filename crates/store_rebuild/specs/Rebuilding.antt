-- What a rebuild answers, and what it leaves.
use Rattle.std.specs.Prelude.{◌≡◌, ◌⊎◌, ℕ, List, length, map, sum_by, Option, Result, Ok, Err}
use Rattle.disk_model.specs.Disk.{DiskState, Files, History, EachImage, IfTold, IsIdle}
use Rattle.model_rebuild.specs.RebuildMoments.{IsLeftByRebuild, IsOldButForRoot}
use Rattle.model_rebuild.specs.RebuildPlan.{RebuildPlan, IsPlanFor}
use Rattle.model_rebuild.specs.RebuiltLists.{lists_of}
use Rattle.model_rebuild.specs.RebuiltLogs.{HasRebuiltLogs}
use Rattle.model_store.specs.Settled.{files_of, IsSettled}
use Rattle.model_taken.specs.Rebuild.{Rebuild, SkippedPlace}
use Rattle.model_taken.specs.Taken.{TakenMessage}
use Rattle.rebuild_files.specs.Refused.{IsStoreWhole}
use Rattle.rebuild_files.specs.declared.error.RebuildError.TheVariants as rebuild
use Rattle.rebuild_judge.specs.Kept.{skipped_row}
use Rattle.store_rebuild.specs.Writing.{OthersReadSame}
use Rattle.store_rebuild.specs.declared.report.RebuildReport.{RebuildReport}
use Rattle.store_rebuild.specs.declared.report.RebuildRefused.{RebuildRefused}
use Rattle.store_rebuild.specs.declared.report.RebuiltStore.{RebuiltStore}

-- The report tells what a rebuild of the old files takes and skips. The disk has the planned logs of the store with this id, is settled for
-- the rebuilt lists, and reads each other file as before.
pub record IsRebuilt (store : List ℕ) (report : RebuildReport) (old now : DiskState) : Type 0 where
  pub plan : RebuildPlan
  pub is_plan : IsPlanFor (files_of old) store plan
  pub logs : HasRebuiltLogs (files_of now) store plan
  pub settled : IsSettled now (lists_of plan.taken)
  pub others : OthersReadSame plan.map_generation plan.box_generation old now
  pub mailboxes : report.mailboxes ≡ length (lists_of plan.taken)
  pub messages : report.messages ≡ sum_by (λ m. length m.messages) (lists_of plan.taken)
  pub skipped : report.skipped ≡ map skipped_row plan.skipped

-- A crash leaves all files as a crash at the beginning may leave them, except that the root log may be gone; or what a crash may leave while
-- the lists of the messages are made that a rebuild takes of the files at the beginning.
abbrev pub IsLeftOf : DiskState → Files → Type 0
IsLeftOf first image = IsOldButForRoot first image ⊎ ((taken : List TakenMessage) × (skipped : List SkippedPlace) × Rebuild (files_of first) taken skipped × IsLeftByRebuild first (lists_of taken) image)

-- the same at every moment
abbrev pub LeavesRebuild : Option History → Option History → Type 0
LeavesRebuild old new = IfTold old (λ first. EachImage (λ _ image. IsLeftOf first image) old new)

-- The files read as a crash may leave them.
abbrev pub ReadsAsRebuildLeaves : Option History → Option History → Type 0
ReadsAsRebuildLeaves old new = IfTold old (λ first. IfTold new (λ now. IsLeftOf first (files_of now)))

-- If the store opens as it is, nothing has changed.
abbrev pub LeavesWhole : Option History → Option History → Type 0
LeavesWhole old new = IfTold old (λ first. IsStoreWhole (files_of first) → IsIdle old new)

-- the disk of an answer
abbrev pub disk_behind : {D : Type 0} → Result (RebuiltStore D) (RebuildRefused D) → D
disk_behind (Ok done) = done.disk
disk_behind (Err refused) = refused.disk

-- the answer is a fault of the device
abbrev pub IsDiskFault : {D : Type 0} → Result (RebuiltStore D) (RebuildRefused D) → Type 0
IsDiskFault (Ok done) = ⊥
IsDiskFault (Err refused) = refused.error ≡ rebuild.DiskFault
