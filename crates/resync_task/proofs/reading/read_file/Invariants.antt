use Rattle.resync_task.proofs.Common.{◌-◌, NoFault, ReadsStoreOnly, IsReadOf}
use Rattle.resync_task.proofs.DamageLemmas.{AreSoFar}
use Rattle.resync_task.proofs.reading.read_file.Given as goal

-- the damaged of the records so far are counted; the store has only been read; the window has what stands in the file
abbrev pub invariant-loop-row : goal.invariant-loop-row
invariant-loop-row g l =
    ReadsStoreOnly l.initial.store l.store (g.D.Disk.history l.initial.store.disk) (g.D.Disk.history l.store.disk)
    × NoFault (g.D.Disk.faults l.initial.store.disk) (g.D.Disk.faults l.store.disk)
    × AreSoFar (g.D.Disk.history l.initial.store.disk) l.initial.store.map l.file.0 l.from l.damaged
    × IsReadOf (g.D.Disk.history l.store.disk) l.file.0 l.window

abbrev pub decreases-loop-row : goal.decreases-loop-row
decreases-loop-row g l = 4294967295 - l.from
