use Rattle.model_store.proofs.settled.rest_is_settled.Goals as goal
use Rattle.model_store.proofs.RestLemmas.{rest_settled}

pub returns : goal.returns
returns c = rest_settled
