use Rattle.task_claims.proofs.LeftLemmas.{due_left, emptied_left, held_left, instance_left, log_left, pinned_left, record_left, removing_left, taken_left}
use Rattle.task_claims.proofs.laws.claimed_things_stay.Goals as goal

pub returns-clause-dues : goal.returns-clause-dues
returns-clause-dues g c = due_left

pub returns-clause-records : goal.returns-clause-records
returns-clause-records g c = record_left

pub returns-clause-taken : goal.returns-clause-taken
returns-clause-taken g c = taken_left

pub returns-clause-emptied : goal.returns-clause-emptied
returns-clause-emptied g c = emptied_left

pub returns-clause-removing : goal.returns-clause-removing
returns-clause-removing g c = removing_left

pub returns-clause-pinned : goal.returns-clause-pinned
returns-clause-pinned g c = pinned_left

pub returns-clause-instances : goal.returns-clause-instances
returns-clause-instances g c = instance_left

pub returns-clause-held : goal.returns-clause-held
returns-clause-held g c = held_left

pub returns-clause-logs : goal.returns-clause-logs
returns-clause-logs g c = log_left
