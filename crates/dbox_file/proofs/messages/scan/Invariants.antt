use Rattle.std.proofs.Common.{length, ◌-◌}
use Rattle.dbox_file.proofs.ScanLemmas.{IsScanned}
use Rattle.dbox_file.proofs.messages.scan.Given as goal

-- the file up to the offset, and the places so far
abbrev pub invariant-loop-offset : goal.invariant-loop-offset
invariant-loop-offset l = IsScanned l.file l.offset l.messages

abbrev pub decreases-loop-offset : goal.decreases-loop-offset
decreases-loop-offset l = length l.file - l.offset
