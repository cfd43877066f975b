use Rattle.script_run.proofs.UnchangedLemmas.{reads_safe, unchanged_since}
use Rattle.script_run.proofs.laws.requests_that_read.Goals as goal

pub returns-clause-unchanged : goal.returns-clause-unchanged
returns-clause-unchanged c = unchanged_since

pub returns-clause-safe : goal.returns-clause-safe
returns-clause-safe c = reads_safe
