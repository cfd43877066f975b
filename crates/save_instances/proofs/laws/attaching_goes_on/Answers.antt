use Rattle.save_instances.proofs.AttachingLemmas.{goes_on}
use Rattle.save_instances.proofs.laws.attaching_goes_on.Goals as goal

pub returns-clause-on : goal.returns-clause-on
returns-clause-on g c = goes_on
