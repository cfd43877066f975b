use Rattle.purge_task.proofs.Common.{◌-◌}
use Rattle.purge_task.proofs.RegionLemmas.{IsCopying}
use Rattle.purge_task.proofs.copying.copy_region.Given as goal

abbrev pub invariant-loop-done : goal.invariant-loop-done
invariant-loop-done g l =
    IsCopying l.row l.target.0 l.done l.initial.store l.store (g.D.Disk.history l.initial.store.disk) (g.D.Disk.history l.store.disk) (g.D.Disk.faults l.initial.store.disk) (g.D.Disk.faults l.store.disk)

abbrev pub decreases-loop-done : goal.decreases-loop-done
decreases-loop-done g l = l.row.size - l.done
