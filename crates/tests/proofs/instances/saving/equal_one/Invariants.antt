use Rattle.std.proofs.Common.{length}
use Rattle.sis_store.specs.Comparing.{IsUnlikeUpTo, candidates_left}
use Rattle.tests.proofs.instances.saving.equal_one.Given as goal

-- none of the candidates so far has these octets
abbrev pub invariant-loop-id : goal.invariant-loop-id
invariant-loop-id g l = IsUnlikeUpTo l.hash (length l.octets) l.octets l.after l.instances.known (g.D.Disk.history l.disk)

abbrev pub decreases-loop-id : goal.decreases-loop-id
decreases-loop-id g l = candidates_left l.hash (length l.octets) l.after l.instances.known
