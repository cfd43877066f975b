use Rattle.tasks_alone.proofs.FetchLemmas.{cause_of}
use Rattle.tasks_alone.proofs.laws.fetches_are_refused_by_the_logs.Goals as goal

pub returns : goal.returns
returns g c = cause_of
