use Rattle.model_store.proofs.stands.one_meaning.Goals as goal
use Rattle.model_store.proofs.StandsLemmas.{stands_once}

pub returns : goal.returns
returns c = stands_once
