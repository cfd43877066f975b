-- Tasks of a copy, a move or an expunge: what they claim, and what their events ask of the store.
use Rattle.std.specs.Prelude.{◌≡◌}
use Rattle.mail_ops.specs.Claims.{copy_claims, expunge_claims, move_claims}
use Rattle.mail_ops.specs.Copy.{IsReadyToCopy}
use Rattle.mail_ops.specs.Expunging.{expunge_amounts}
use Rattle.mail_ops.specs.Moving.{IsReadyToMove}
use Rattle.mail_ops.specs.Owing.{AreDueIn}
use Rattle.mail_ops.specs.declared.copy.CopyStage.TheVariants as copy_stage
use Rattle.mail_ops.specs.declared.expunging.ExpungeStage.TheVariants as expunge_stage
use Rattle.mail_ops.specs.declared.moving.MoveStage.TheVariants as move_stage
use Rattle.store_core.specs.Value.{StoreValue}
use Rattle.task_claims.specs.Claims.{AreIn, Claims, both_claims}
use Rattle.tests.specs.declared.tasks.race.AnyTask.{AnyTask}
use Rattle.tests.specs.declared.tasks.race.AnyTask.TheVariants as any

abbrev pub racer_claims : AnyTask → Claims
racer_claims (any.Copy task) = copy_claims task.stage
racer_claims (any.Move task) = move_claims task.stage
racer_claims (any.Expunge task) = expunge_claims task.stage

abbrev pub IsReadyRacer : {D : Type 0} → AnyTask → StoreValue D → Type 0
IsReadyRacer (any.Copy task) store = IsReadyToCopy task.name task.uid task.stage store
IsReadyRacer (any.Move task) store = IsReadyToMove task.name task.uid task.stage store
IsReadyRacer (any.Expunge task) store = AreDueIn store (expunge_amounts task.stage)

abbrev pub HasNotStarted : AnyTask → Type 0
HasNotStarted (any.Copy task) = task.stage ≡ copy_stage.First
HasNotStarted (any.Move task) = task.stage ≡ move_stage.First
HasNotStarted (any.Expunge task) = task.stage ≡ expunge_stage.First

-- Both are ready, and what both claim is among what all tasks do.
pub record AreReadyTasks {D : Type 0} (one two : AnyTask) (store : StoreValue D) : Type 0 where
  pub one_ready : IsReadyRacer one store
  pub two_ready : IsReadyRacer two store
  pub claimed : AreIn store (both_claims (racer_claims one) (racer_claims two))
