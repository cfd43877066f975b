use Rattle.rebuild_judge.proofs.LineLemmas.{bad_line}
use Rattle.rebuild_judge.proofs.lines.metadata_in.Goals as goal

pub returns-in-Err-BadLine-clause-says : goal.returns-in-Err-BadLine-clause-says
returns-in-Err-BadLine-clause-says c = bad_line c.args.lines.now c.in-Err-BadLine.field-0 c.in-Err-BadLine.field-0-0 c.in-Err-BadLine.field-0-is c.in-Err-BadLine.ensures.gives
