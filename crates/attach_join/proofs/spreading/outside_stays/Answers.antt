use Rattle.std.proofs.Common.{arith}
use Rattle.attach_join.proofs.OutsideLemmas.{outside_kept}
use Rattle.attach_join.proofs.spreading.outside_stays.Goals as goal

pub returns : goal.returns
returns c before ref after front mid new back row long count same = outside_kept 0 before ref after front mid new back row (omega (arith, long)) count same
