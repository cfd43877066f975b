use Rattle.list_machine.proofs.OneStepLemmas.{answers_one}
use Rattle.list_machine.proofs.machine.steps_are_one.Goals as goal

pub returns : goal.returns
returns c = answers_one
