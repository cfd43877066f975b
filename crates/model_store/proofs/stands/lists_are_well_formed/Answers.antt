use Rattle.model_store.proofs.stands.lists_are_well_formed.Goals as goal
use Rattle.model_store.proofs.WellFormedLemmas.{well_formed}

pub returns : goal.returns
returns c = well_formed
