use Rattle.model_store.proofs.examples.example_instance_store_is_safe.Goals as goal
use Rattle.model_store.proofs.InstanceExampleLemmas.{instance_safe}

pub returns : goal.returns
returns c = instance_safe
