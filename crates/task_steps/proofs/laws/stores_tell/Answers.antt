use Rattle.task_steps.proofs.SeenLemmas.{due_is, is_new, pinned_as, never_used, first_doomed, instance_still_known, places_new, comes_to_on, there_before}
use Rattle.task_steps.proofs.laws.stores_tell.Goals as goal

pub returns-clause-due : goal.returns-clause-due
returns-clause-due c = due_is

pub returns-clause-new_guid : goal.returns-clause-new_guid
returns-clause-new_guid c = is_new

pub returns-clause-pinned : goal.returns-clause-pinned
returns-clause-pinned c = pinned_as

pub returns-clause-unused : goal.returns-clause-unused
returns-clause-unused c = never_used

pub returns-clause-dooms : goal.returns-clause-dooms
returns-clause-dooms c = first_doomed

pub returns-clause-placed : goal.returns-clause-placed
returns-clause-placed c = places_new

pub returns-clause-known : goal.returns-clause-known
returns-clause-known c = instance_still_known

pub returns-clause-on : goal.returns-clause-on
returns-clause-on c = comes_to_on

pub returns-clause-instances : goal.returns-clause-instances
returns-clause-instances c = λ run seen instance h runs. (h.keeps runs).instances instance

pub returns-clause-files : goal.returns-clause-files
returns-clause-files c = λ run event seen file h runs none unsealed known. there_before run event seen file (h.keeps runs) none unsealed known
