use Rattle.saved_message.proofs.StoredLemmas.{laid_short}
use Rattle.saved_message.proofs.laws.laid_regions_are_short.Goals as goal

pub returns : goal.returns
returns c = laid_short
