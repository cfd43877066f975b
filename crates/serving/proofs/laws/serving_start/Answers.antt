use Rattle.serving.specs.OwnWork.{HasWorked}
use Rattle.serving.proofs.StartLemmas.{serving_start}
use Rattle.serving.proofs.laws.serving_start.Goals as goal

pub returns : goal.returns
returns c = serving_start HasWorked
