use Rattle.std.proofs.Common.{◌-◌, length}
use Rattle.store_checks.proofs.DanglingLemmas.{Searched}
use Rattle.store_checks.proofs.dangling.first_dangling.Given as goal

abbrev pub invariant-loop-place : goal.invariant-loop-place
invariant-loop-place l = Searched l.map.meaning l.index.meaning l.text l.entries.octets.now l.entries.gate

abbrev pub decreases-loop-place : goal.decreases-loop-place
decreases-loop-place l = length l.entries.octets.now - l.entries.gate
