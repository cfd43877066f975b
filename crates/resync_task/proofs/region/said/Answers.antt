use Rattle.resync_task.proofs.RegionLemmas.{bad_line}
use Rattle.resync_task.proofs.region.said.Goals as goal

pub returns-in-Err-BadLine : goal.returns-in-Err-BadLine
returns-in-Err-BadLine c = bad_line c.args.lines.now c.in-Err-BadLine.field-0 c.in-Err-BadLine.field-0-0 c.in-Err-BadLine.field-0-is c.in-Err-BadLine.ensures.gives
