-- Two makes, and the store that they work on.
use Rattle.mail_ops.specs.Claims.{make_claims}
use Rattle.mail_ops.specs.Making.{IsReadyToMake}
use Rattle.mail_ops.specs.declared.making.MakeStage.{MakeStage}
use Rattle.store_core.specs.Value.{StoreValue}
use Rattle.task_claims.specs.Claims.{AreIn, both_claims}

-- Both are ready, and the logs that both have made are among those of the store: so they are different ones.
pub record AreReadyMakes {D : Type 0} (one two : MakeStage) (store : StoreValue D) : Type 0 where
  pub one_ready : IsReadyToMake one store
  pub two_ready : IsReadyToMake two store
  pub claimed : AreIn store (both_claims (make_claims one) (make_claims two))
