use Rattle.std.proofs.Common.{◌≡◌, replicate, vec_len}
use Rattle.lanes.specs.Worlds.{empty_row}
use Rattle.lanes.proofs.parts.empty_lanes.Given as goal

abbrev pub invariant-loop : goal.invariant-loop
invariant-loop l = (l.lanes.items ≡ replicate l.counter empty_row) × (vec_len l.lanes ≡ l.counter)
