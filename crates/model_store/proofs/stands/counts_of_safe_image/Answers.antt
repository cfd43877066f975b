use Rattle.model_store.proofs.stands.counts_of_safe_image.Goals as goal
use Rattle.model_store.proofs.SafeLemmas.{safe_counts}

pub returns : goal.returns
returns c = safe_counts
