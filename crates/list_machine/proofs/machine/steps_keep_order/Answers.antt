use Rattle.list_machine.proofs.MachineOrderLemmas.{answers_well}
use Rattle.list_machine.proofs.machine.steps_keep_order.Goals as goal

pub returns : goal.returns
returns c = answers_well
