use Rattle.save_instances.proofs.FoundLemmas.{of_parts_kept}
use Rattle.save_instances.proofs.laws.found_instances_are_kept.Goals as goal

pub returns : goal.returns
returns g c = of_parts_kept
