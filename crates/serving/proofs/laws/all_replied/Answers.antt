use Rattle.serving.specs.OwnWork.{HasWorked}
use Rattle.serving.proofs.ServingLemmas.{all_replied}
use Rattle.serving.proofs.laws.all_replied.Goals as goal

pub returns : goal.returns
returns c = all_replied HasWorked
