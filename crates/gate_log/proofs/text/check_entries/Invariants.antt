use Rattle.std.proofs.Common.{◌-◌, length}
use Rattle.gate_log.proofs.TextLemmas.{Walked}
use Rattle.gate_log.proofs.text.check_entries.Given as goal

abbrev pub invariant-loop-gate : goal.invariant-loop-gate
invariant-loop-gate l = Walked l.text l.head l.gate l.count

abbrev pub decreases-loop-gate : goal.decreases-loop-gate
decreases-loop-gate l = length l.text - l.gate
