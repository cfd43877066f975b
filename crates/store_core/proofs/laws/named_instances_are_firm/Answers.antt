use Rattle.store_core.proofs.InstanceFirmLemmas.{named_all_firm}
use Rattle.store_core.proofs.laws.named_instances_are_firm.Goals as goal

pub returns : goal.returns
returns g c = named_all_firm
