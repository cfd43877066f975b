use Rattle.disk_model.specs.Disk.{change}
use Rattle.disk_mem.proofs.calls.MemDiskDisk.sync.Goals as goal

pub returns : goal.returns
unfolding change
returns c = record {
  state = c.attempt_sync.ensures.state;
  failed = c.attempt_sync.ensures.failed;
  cause = c.attempt_sync.ensures.cause;
  fails = c.attempt_sync.ensures.fails;
}
