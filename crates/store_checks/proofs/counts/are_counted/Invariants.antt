use Rattle.std.proofs.Common.{take}
use Rattle.store_checks.specs.Checked.{listed_in, counts_in, AreTakenOff}
use Rattle.store_checks.proofs.counts.are_counted.Given as goal

abbrev pub invariant-loop-mailbox : goal.invariant-loop-mailbox
invariant-loop-mailbox l = AreTakenOff (λ uid. listed_in uid (take l.mailbox-index l.boxes)) l.map.meaning.records (counts_in l.map.meaning) l.left
