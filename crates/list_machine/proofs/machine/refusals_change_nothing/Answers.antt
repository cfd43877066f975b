use Rattle.list_machine.proofs.MachineLemmas.{refused_same, refused_is_step, refused_alone}
use Rattle.list_machine.proofs.machine.refusals_change_nothing.Goals as goal

pub returns : goal.returns
returns c = record { same = refused_same; step = refused_is_step; alone = refused_alone }
