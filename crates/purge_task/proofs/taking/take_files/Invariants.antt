use Rattle.purge_task.proofs.TakenLemmas.{AreTakenTo}
use Rattle.purge_task.proofs.taking.take_files.Given as goal

abbrev pub invariant-loop-source : goal.invariant-loop-source
invariant-loop-source g l = AreTakenTo l.source-index l.initial.sources l.sources l.initial.store l.store
