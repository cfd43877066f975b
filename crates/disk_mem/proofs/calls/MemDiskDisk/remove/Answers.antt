use Rattle.disk_model.specs.Disk.{change}
use Rattle.disk_mem.proofs.calls.MemDiskDisk.remove.Goals as goal

pub returns : goal.returns
unfolding change
returns c = record {
  state = c.attempt.ensures.state;
  failed = c.attempt.ensures.failed;
  cause = c.attempt.ensures.cause;
  fails = c.attempt.ensures.fails;
}
