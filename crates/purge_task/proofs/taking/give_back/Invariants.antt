use Rattle.purge_task.proofs.Common.{drop}
use Rattle.purge_task.proofs.ReleaseLemmas.{IsReleasedTo}
use Rattle.purge_task.proofs.taking.give_back.Given as goal

abbrev pub invariant-loop-source : goal.invariant-loop-source
invariant-loop-source g l = IsReleasedTo (drop l.source-index l.sources) l.sources l.initial.store l.store
