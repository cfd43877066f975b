use Rattle.std.proofs.Common.{◌-◌, length}
use Rattle.attach_join.proofs.FillLemmas.{IsFilling}
use Rattle.attach_join.proofs.keeping.fill_up.Given as goal

abbrev pub invariant-loop-out : goal.invariant-loop-out
invariant-loop-out l = record { filling : IsFilling l.fn.out l.out l.end }

abbrev pub decreases-loop-out : goal.decreases-loop-out
decreases-loop-out l = l.end - length l.out.items
