use Rattle.std.proofs.Common.{◌+◌}
use Rattle.lanes.specs.Worlds.{AreIdleBetween}
use Rattle.lanes.proofs.world.first_busy.Given as goal

-- the lanes up to this place have no request left
abbrev pub invariant-loop-place : goal.invariant-loop-place
invariant-loop-place l = AreIdleBetween l.fn.after (l.place + 1) l.lanes
