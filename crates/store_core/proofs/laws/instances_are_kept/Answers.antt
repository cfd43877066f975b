use Rattle.store_core.proofs.InstanceKeepingLemmas.{found_kept, kept_both, kept_none, kept_same}
use Rattle.store_core.proofs.laws.instances_are_kept.Goals as goal

pub returns-clause-same : goal.returns-clause-same
returns-clause-same g c = kept_same

pub returns-clause-both : goal.returns-clause-both
returns-clause-both g c = kept_both

pub returns-clause-found : goal.returns-clause-found
returns-clause-found g c = found_kept

pub returns-clause-none : goal.returns-clause-none
returns-clause-none g c = kept_none
