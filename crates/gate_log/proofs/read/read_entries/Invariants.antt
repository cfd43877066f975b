use Rattle.std.proofs.Common.{◌-◌, length}
use Rattle.gate_log.proofs.EntryReadLemmas.{Passed}
use Rattle.gate_log.proofs.read.read_entries.Given as goal

abbrev pub invariant-loop-gate : goal.invariant-loop-gate
invariant-loop-gate l = Passed l.octets l.head l.entries l.places l.gate

abbrev pub decreases-loop-gate : goal.decreases-loop-gate
decreases-loop-gate l = length l.octets - l.gate
