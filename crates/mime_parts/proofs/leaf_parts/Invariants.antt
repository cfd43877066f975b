use Rattle.std.proofs.Common.{length, ◌-◌}
use Rattle.mime_parts.specs.Reading.{IsRead}
use Rattle.mime_parts.proofs.leaf_parts.Given as goal

abbrev pub invariant-loop-line : goal.invariant-loop-line
invariant-loop-line l = IsRead l.message l.reader l.at

abbrev pub decreases-loop-line : goal.decreases-loop-line
decreases-loop-line l = length l.message - l.at
