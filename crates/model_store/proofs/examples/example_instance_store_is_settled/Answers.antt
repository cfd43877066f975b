use Rattle.model_store.proofs.examples.example_instance_store_is_settled.Goals as goal
use Rattle.model_store.proofs.RestLemmas.{instance_settled}

pub returns : goal.returns
returns c = instance_settled
