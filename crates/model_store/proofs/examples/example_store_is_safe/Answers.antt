use Rattle.model_store.proofs.examples.example_store_is_safe.Goals as goal
use Rattle.model_store.proofs.StoreExampleLemmas.{example_safe}

pub returns : goal.returns
returns c = example_safe
