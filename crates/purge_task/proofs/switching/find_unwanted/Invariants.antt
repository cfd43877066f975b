use Rattle.std.proofs.Common.{◌≡◌, ◌-◌, vec_capacity}
use Rattle.purge_task.proofs.ListingLemmas.{AreUnwantedTo}
use Rattle.purge_task.proofs.switching.find_unwanted.Given as goal

abbrev pub invariant-loop-row : goal.invariant-loop-row
invariant-loop-row l = record { so : AreUnwantedTo l.map.meaning l.file.0 l.from l.dropped.items; room : vec_capacity l.dropped ≡ vec_capacity l.initial.dropped }

abbrev pub decreases-loop-row : goal.decreases-loop-row
decreases-loop-row l = 4294967295 - l.from
