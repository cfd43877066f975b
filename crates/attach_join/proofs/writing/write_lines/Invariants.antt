use Rattle.std.proofs.Common.{◌≡◌, ◌-◌, length}
use Rattle.attach_join.proofs.TextLemmas.{IsWriting}
use Rattle.attach_join.proofs.writing.write_lines.Given as goal

abbrev pub invariant-loop-place : goal.invariant-loop-place
invariant-loop-place l = record { writing : IsWriting l.fn.form l.fn.size l.fn.range l.range l.place l.writer; block : length l.block ≡ length l.fn.block }

abbrev pub decreases-loop-place : goal.decreases-loop-place
decreases-loop-place l = length l.range - l.place
