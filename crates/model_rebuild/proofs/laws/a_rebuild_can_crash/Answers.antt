use Rattle.model_rebuild.proofs.MomentLemmas.{synced_before, removed_before, named_before, gone_then, left_before, left_without_root, safe_then}
use Rattle.model_rebuild.proofs.laws.a_rebuild_can_crash.Goals as goal

pub returns-clause-synced : goal.returns-clause-synced
returns-clause-synced c = synced_before

pub returns-clause-removed : goal.returns-clause-removed
returns-clause-removed c = removed_before

pub returns-clause-named : goal.returns-clause-named
returns-clause-named c = named_before

pub returns-clause-gone : goal.returns-clause-gone
returns-clause-gone c = gone_then

pub returns-clause-before : goal.returns-clause-before
returns-clause-before c = left_before

pub returns-clause-between : goal.returns-clause-between
returns-clause-between c = left_without_root

pub returns-clause-last : goal.returns-clause-last
returns-clause-last c = safe_then
