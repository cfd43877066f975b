use Rattle.dbox_metadata.proofs.MadeLemmas.{made_is_said}
use Rattle.dbox_metadata.proofs.laws.made_metadata_is_said.Goals as goal

pub returns : goal.returns
returns c = made_is_said
