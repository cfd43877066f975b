use Rattle.std.proofs.Common.{All, subst, sym}
use Rattle.std.proofs.lemmas.List.Elements.{All-set}
use Rattle.turn_lock.specs.Seats.{IsFreeSeat}
use Rattle.mdbox_lanes.proofs.lock.one_turn.Goals as goal

pub close_lock-world-requires-clause-free : goal.close_lock-world-requires-clause-free
close_lock-world-requires-clause-free g c κs =
    let dealt = subst (λ seats. All (IsFreeSeat c.in-Ok.lock) seats) (sym c.into_vec-seats.ensures) c.in-Ok.ensures.free in
    let free = All-set (IsFreeSeat c.in-Ok.lock) c.into_vec-seats.result.items 0 c.take_turn.new.seat c.take_turn.ensures.free dealt in
    subst (λ seats. All (IsFreeSeat c.in-Ok.lock) seats) (sym c.of.ensures) free
