use Rattle.std.proofs.Common.{◌≤◌, length}
use Rattle.attach_join.proofs.TextLemmas.{AreWriting}
use Rattle.attach_join.proofs.writing.write_texts.Given as goal

abbrev pub invariant-loop-reference : goal.invariant-loop-reference
invariant-loop-reference l = record { writing : AreWriting l.fn.refs l.fn.rows l.fn.whole l.refs l.rows l.whole; block : 1 ≤ length l.block }

abbrev pub decreases-loop-reference : goal.decreases-loop-reference
decreases-loop-reference l = length l.refs
