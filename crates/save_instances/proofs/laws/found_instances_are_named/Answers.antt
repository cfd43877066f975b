use Rattle.save_instances.proofs.FoundLemmas.{rows_first, rows_known, rows_there}
use Rattle.save_instances.proofs.laws.found_instances_are_named.Goals as goal

pub returns-clause-known : goal.returns-clause-known
returns-clause-known c = rows_known

pub returns-clause-first : goal.returns-clause-first
returns-clause-first c = rows_first

pub returns-clause-there : goal.returns-clause-there
returns-clause-there c = rows_there
