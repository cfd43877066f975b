use Rattle.std.proofs.Common.{◌≡◌}
use Rattle.turn_lock.proofs.lock.TurnLock.take.Given as goal

-- while the seat waits, its place stays
abbrev pub invariant-loop : goal.invariant-loop
invariant-loop g l = (l.seat.seat.table_id ≡ l.initial.seat.seat.table_id) × (l.seat.seat.me ≡ l.initial.seat.seat.me)
