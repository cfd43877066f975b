use Rattle.model_store.proofs.stands.one_map.Goals as goal
use Rattle.model_store.proofs.StandsLemmas.{map_same}

pub returns : goal.returns
returns c = map_same
