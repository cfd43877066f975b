use Rattle.tasks_alone.proofs.KnownFirstLemmas.{none_held}
use Rattle.tasks_alone.proofs.laws.opened_instances_are_free.Goals as goal

pub returns : goal.returns
returns g c = none_held
