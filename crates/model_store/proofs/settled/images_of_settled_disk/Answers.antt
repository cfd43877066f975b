use Rattle.model_store.proofs.settled.images_of_settled_disk.Goals as goal
use Rattle.model_store.proofs.SettledLemmas.{settled_safe}

pub returns : goal.returns
returns c = settled_safe
