use Rattle.std.proofs.Common.{take}
use Rattle.lanes.specs.Worlds.{AreGiven}
use Rattle.mdbox_threads.proofs.turn.prepare_in_turn.Given as goal

-- the requests so far are given theirs
abbrev pub invariant-loop-request : goal.invariant-loop-request
invariant-loop-request l = AreGiven (take l.request-index l.requests) l.prepared
