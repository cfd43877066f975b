use Rattle.std.proofs.Common.{◌≡◌, ◌≤◌, ◌-◌, false, length, take}
use Rattle.disk_model.specs.Disk.{SameButFor}
use Rattle.disk_model.specs.FaultCounts.{NoFault}
use Rattle.box_snapshot.specs.BoxFilled.{IsBoxFilled, entries_anew}
use Rattle.box_snapshot.specs.Rewrites.{Rewrites}
use Rattle.box_snapshot.proofs.RewritesLemmas.{LeavesValue}
use Rattle.box_snapshot.proofs.box_log.fill.Given as goal

-- the draft has the entries before this place, and the store is as it was
abbrev pub invariant-loop-from : goal.invariant-loop-from
invariant-loop-from g l = record {
  end : l.end ≡ length (entries_anew l.fn.mailbox.0 l.fn.store);
  within : l.from ≤ length (entries_anew l.fn.mailbox.0 l.fn.store);
  filled : IsBoxFilled (g.D.Disk.history l.store.disk) (take l.from (entries_anew l.fn.mailbox.0 l.fn.store)) l.draft l.store;
  rewrites : Rewrites g.D.Disk.history l.fn.store l.store;
  others : SameButFor l.fn.draft.log.name (g.D.Disk.history l.fn.store.disk) (g.D.Disk.history l.store.disk);
  number : (l.draft.number ≡ l.fn.draft.number) × (l.draft.generation ≡ l.fn.draft.generation);
  same : LeavesValue l.fn.store l.store;
  running : l.store.stopped ≡ false;
  faults : NoFault (g.D.Disk.faults l.fn.store.disk) (g.D.Disk.faults l.store.disk);
}

abbrev pub decreases-loop-from : goal.decreases-loop-from
decreases-loop-from g l = l.end - l.from
