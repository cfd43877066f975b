use Rattle.list_machine.proofs.MachineLemmas.{answers_refs}
use Rattle.list_machine.proofs.machine.steps_change_references.Goals as goal

pub returns : goal.returns
returns c = answers_refs
