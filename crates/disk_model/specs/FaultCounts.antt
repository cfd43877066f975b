-- Counts of faults over a run of calls.
use Rattle.std.specs.Prelude.{◌≡◌, ◌⊎◌, ◌≤◌}
use Rattle.mdbox_base.specs.Streams.{Rose}
use Rattle.disk_model.specs.Disk.{Faults}

-- no call failed
abbrev pub NoFault : Faults → Faults → Type 0
NoFault old new = new ≡ old

-- No failed change was counted. The count of failed reads never falls, and it rose where this holds.
pub record ReadFaultCounted (failed : Type 0) (old new : Faults) : Type 0 where
  pub reads : old.reads ≤ new.reads
  pub changes : new.changes ≡ old.changes
  pub rose : failed → Rose old.reads new.reads

-- No failed read was counted. The count of failed changes never falls, and it rose where this holds.
pub record ChangeFaultCounted (failed : Type 0) (old new : Faults) : Type 0 where
  pub reads : new.reads ≡ old.reads
  pub changes : old.changes ≤ new.changes
  pub rose : failed → Rose old.changes new.changes

-- The counts never fall, and one of them rose where this holds.
pub record AnyFaultCounted (failed : Type 0) (old new : Faults) : Type 0 where
  pub reads : old.reads ≤ new.reads
  pub changes : old.changes ≤ new.changes
  pub rose : failed → Rose old.reads new.reads ⊎ Rose old.changes new.changes
