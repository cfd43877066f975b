use Rattle.attach_join.proofs.JoinLemmas.{IsJoined}
use Rattle.attach_join.proofs.join.join.Given as goal

abbrev pub invariant-loop-i : goal.invariant-loop-i
invariant-loop-i l = IsJoined l.body l.rest l.refs l.instances l.i l.before l.out.items
