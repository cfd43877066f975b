use Rattle.save_instances.proofs.AttachCountLemmas.{none_more}
use Rattle.save_instances.proofs.laws.attaching_ends.Goals as goal

pub returns : goal.returns
returns c = none_more
