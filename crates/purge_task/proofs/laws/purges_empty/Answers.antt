use Rattle.purge_task.proofs.QuietLemmas.{emptied_dropped, emptied_more, emptied_none, emptied_stay}
use Rattle.purge_task.proofs.laws.purges_empty.Goals as goal

pub returns-clause-begun : goal.returns-clause-begun
returns-clause-begun c m is_left = emptied_none m is_left

pub returns-clause-switched : goal.returns-clause-switched
returns-clause-switched c old m done is_left file target moved dropped sound fits each undone left unleft h = emptied_more old m done is_left file target moved dropped sound fits each undone left unleft h

pub returns-clause-ended : goal.returns-clause-ended
returns-clause-ended c old new done is_left h all = emptied_stay old new done is_left h all

pub returns-clause-dropped : goal.returns-clause-dropped
returns-clause-dropped c old new dropped drops stay = emptied_dropped old new dropped drops stay
