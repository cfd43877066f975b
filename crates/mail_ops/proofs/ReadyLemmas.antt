-- The message that a task copies or moves is the only one with its UID still.
use Rattle.mail_ops.proofs.Common.{ℕ, List, Uid, KeepsUids, StoreValue, CopyStage, MoveStage}
use Rattle.mail_ops.specs.Copy.{KeepsSource}
use Rattle.mail_ops.specs.Moving.{KeepsMoved}
use Rattle.mail_ops.specs.declared.copy.CopyStage.TheVariants as copy_stage
use Rattle.mail_ops.specs.declared.moving.MoveStage.TheVariants as move_stage

pub source_kept : {D : Type 0} → (name : List ℕ) (uid : Uid) (now : CopyStage) (old new : StoreValue D) → KeepsUids old new → KeepsSource name uid now old → KeepsSource name uid now new
source_kept name uid copy_stage.First old new keeps source = tt
source_kept name uid (copy_stage.Adding held from) old new keeps source = keeps from.0 uid.0 held.0 source
source_kept name uid (copy_stage.BeginningAgain held) old new keeps source = tt
source_kept name uid (copy_stage.GivingBack held why) old new keeps source = source

pub moved_kept : {D : Type 0} → (name : List ℕ) (uid : Uid) (now : MoveStage) (old new : StoreValue D) → KeepsUids old new → KeepsMoved name uid now old → KeepsMoved name uid now new
moved_kept name uid move_stage.First old new keeps source = tt
moved_kept name uid (move_stage.Adding held from) old new keeps source = keeps from.0 uid.0 held.0 source
moved_kept name uid (move_stage.BeginningAgain held) old new keeps source = tt
moved_kept name uid (move_stage.GivingBack held why) old new keeps source = source
moved_kept name uid (move_stage.Removing held copied from) old new keeps source = keeps from.0 uid.0 held.0 source
moved_kept name uid (move_stage.Owing owed copied) old new keeps source = tt
