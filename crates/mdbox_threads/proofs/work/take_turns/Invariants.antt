use Rattle.std.proofs.Common.{◌≡◌}
use Rattle.turn_lock.specs.LockRule.{StartsWith}
use Rattle.turn_lock.specs.Seats.{IsAtWork, IsUnder, found_by, more_turns, parts_with, seen_by}
use Rattle.mdbox_threads.specs.Traces.{turn_numbers}
use Rattle.mdbox_threads.proofs.work.take_turns.Given as goal

abbrev pub invariant-turns : goal.invariant-turns
invariant-turns g l = IsAtWork l.lock l.seat × (found_by l.seat ≡ turn_numbers l.handed.world.turns)
    × IsUnder l.handed.first l.handed.world.finished l.seat × IsUnder l.first.value l.first.value.finished l.seat
    × (parts_with l.seat ≡ parts_with l.fn.seat) × StartsWith (turn_numbers l.handed.world.turns) (seen_by l.fn.seat)

abbrev pub decreases-turns : goal.decreases-turns
decreases-turns g l = more_turns l.seat
