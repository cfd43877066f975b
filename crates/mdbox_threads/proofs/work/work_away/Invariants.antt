use Rattle.std.proofs.Common.{◌≡◌}
use Rattle.turn_lock.specs.LockRule.{StartsWith}
use Rattle.turn_lock.specs.Seats.{parts_with, seen_by}
use Rattle.mdbox_threads.specs.Work.{IsReadySeat}
use Rattle.mdbox_threads.proofs.work.work_away.Given as goal

abbrev pub invariant-loop : goal.invariant-loop
invariant-loop g l = IsReadySeat l.lock l.first.value l.seat × (parts_with l.seat ≡ parts_with l.initial.seat) × StartsWith (seen_by l.seat) (seen_by l.initial.seat)
