use Rattle.store_core.proofs.InstanceKeepingLemmas.{firm_both}
use Rattle.store_core.proofs.KnownInstanceLemmas.{firm_same}
use Rattle.store_core.proofs.laws.instances_stay_firm.Goals as goal

pub returns-clause-same : goal.returns-clause-same
returns-clause-same g c = firm_same

pub returns-clause-both : goal.returns-clause-both
returns-clause-both g c = firm_both
