use Rattle.journal.proofs.BrokenLemmas.{none_failed, failure_is, failure_still, broken_is, reached_fails, reached_broken}
use Rattle.journal.proofs.reached.failed_appends_are_reached.Goals as goal

pub returns : goal.returns
returns c = record { none = none_failed; failure = failure_is; still = failure_still; broken = broken_is; before = reached_fails; after = reached_broken }
