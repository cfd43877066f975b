use Rattle.task_claims.proofs.GoneLemmas.{gone_both, gone_created, gone_named, gone_removed, gone_stays}
use Rattle.task_claims.proofs.laws.gone_numbers_stay.Goals as goal

pub returns-clause-stay : goal.returns-clause-stay
returns-clause-stay g c = gone_stays

pub returns-clause-made : goal.returns-clause-made
returns-clause-made g c = gone_created

pub returns-clause-named : goal.returns-clause-named
returns-clause-named g c = gone_named

pub returns-clause-removed : goal.returns-clause-removed
returns-clause-removed g c = gone_removed

pub returns-clause-both : goal.returns-clause-both
returns-clause-both g c = gone_both
