use Rattle.task_steps.proofs.ExpungingLemmas.{expunges_are_kept, removing, lowering_ends}
use Rattle.task_steps.proofs.laws.expunges_step_twice.Goals as goal

pub returns-clause-removing : goal.returns-clause-removing
returns-clause-removing c = removing

pub returns-clause-lowering : goal.returns-clause-lowering
returns-clause-lowering c = lowering_ends

pub returns-clause-kept : goal.returns-clause-kept
returns-clause-kept c = expunges_are_kept
