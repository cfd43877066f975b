use Rattle.model_store.proofs.examples.example_store_is_settled.Goals as goal
use Rattle.model_store.proofs.RestLemmas.{example_settled}

pub returns : goal.returns
returns c = example_settled
