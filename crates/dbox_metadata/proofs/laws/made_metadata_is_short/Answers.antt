use Rattle.dbox_metadata.proofs.ShortLemmas.{made_short}
use Rattle.dbox_metadata.proofs.laws.made_metadata_is_short.Goals as goal

pub returns : goal.returns
returns c = made_short
