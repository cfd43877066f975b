use Rattle.tests.proofs.HeldLemmas.{found_unheld}
use Rattle.tests.proofs.tasks.deliveries.opened.Goals as goal

pub returns-in-Ok : goal.returns-in-Ok
returns-in-Ok c = found_unheld c.in-Ok.store.map c.in-Ok.store.instances c.in-Ok.ensures.instances
