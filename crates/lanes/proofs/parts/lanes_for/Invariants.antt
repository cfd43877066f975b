use Rattle.std.proofs.Common.{◌≡◌, ◌++◌, length, vec_len}
use Rattle.journal.specs.Journal.{Requests}
use Rattle.lanes.specs.Worlds.{AreGiven, AreRowsFrom}
use Rattle.lanes.proofs.parts.lanes_for.Given as goal

-- The requests behind those that are left have their lanes.
abbrev pub invariant-loop-lane : goal.invariant-loop-lane
invariant-loop-lane l = record {
  behind : (part : Requests) × (l.fn.script.requests ≡ l.requests.items ++ part) × AreRowsFrom l.fn.script.requests l.fn.script.lanes (length l.requests.items) part l.lanes.items;
  given : AreGiven l.requests.items l.prepared.items;
  prepared_len : vec_len l.prepared ≡ length l.prepared.items;
  requests_len : vec_len l.requests ≡ length l.requests.items;
  lanes_len : vec_len l.lanes ≡ length l.lanes.items;
}

abbrev pub decreases-loop-lane : goal.decreases-loop-lane
decreases-loop-lane l = vec_len l.requests
