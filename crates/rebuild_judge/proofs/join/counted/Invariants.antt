use Rattle.attach_join.proofs.CheckLemmas.{AreGood}
use Rattle.rebuild_judge.proofs.join.counted.Given as goal

abbrev pub invariant-loop-i : goal.invariant-loop-i
invariant-loop-i l = AreGood l.stored l.refs l.i l.before l.sum
