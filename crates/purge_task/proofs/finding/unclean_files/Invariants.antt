use Rattle.purge_task.proofs.Common.{◌≡◌, ◌-◌, option_map_or, IsIdle, NoFault}
use Rattle.purge_task.proofs.FindLemmas.{IsFoundUpTo}
use Rattle.purge_task.proofs.finding.unclean_files.Given as goal

abbrev pub invariant-loop-file : goal.invariant-loop-file
invariant-loop-file g l = record {
  same : l.store ≡ record l.initial.store { disk = l.store.disk };
  idle : IsIdle (g.D.Disk.history l.initial.store.disk) (g.D.Disk.history l.store.disk);
  faults : NoFault (g.D.Disk.faults l.initial.store.disk) (g.D.Disk.faults l.store.disk);
  found : IsFoundUpTo l.initial.store (g.D.Disk.history l.initial.store.disk) l.after l.files.items;
}

abbrev pub decreases-loop-file : goal.decreases-loop-file
decreases-loop-file g l = option_map_or (λ file. 4294967295 - file.0) l.after 4294967296
