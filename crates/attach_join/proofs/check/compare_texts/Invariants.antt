use Rattle.attach_join.proofs.CheckLemmas.{AreSame}
use Rattle.attach_join.proofs.check.compare_texts.Given as goal

abbrev pub invariant-loop-i : goal.invariant-loop-i
invariant-loop-i l = AreSame l.refs l.instances l.i
