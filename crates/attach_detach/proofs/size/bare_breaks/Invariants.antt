use Rattle.std.proofs.Common.{◌≡◌, ◌+◌, ◌≤◌, length}
use Rattle.model_attach.specs.VirtualSize.{bare_breaks}
use Rattle.attach_detach.proofs.size.bare_breaks.Given as goal

abbrev pub invariant-loop-rest : goal.invariant-loop-rest
invariant-loop-rest l = (bare_breaks 0 l.message ≡ l.bare + bare_breaks l.before l.rest) × (l.bare + length l.rest ≤ length l.message)

abbrev pub decreases-loop-rest : goal.decreases-loop-rest
decreases-loop-rest l = length l.rest
