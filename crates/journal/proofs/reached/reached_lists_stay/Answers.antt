use Rattle.journal.proofs.ReachedLemmas.{reached_last, reached_quiet, reached_step}
use Rattle.journal.proofs.reached.reached_lists_stay.Goals as goal

pub returns : goal.returns
returns c = record { last = reached_last; quiet = reached_quiet; step = reached_step }
