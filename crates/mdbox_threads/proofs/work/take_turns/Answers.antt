use Rattle.std.proofs.Common.{◌≤◌, length, subst, sym, ap, ◌∙◌}
use Rattle.turn_lock.specs.Seats.{IsUnder, seen_by}
use Rattle.turn_lock.specs.LockRule.{StartsWith}
use Rattle.mdbox_threads.proofs.SeatLemmas.{one_charter, one_turn, turn_seen, under_along, turn_grown}
use Rattle.mdbox_threads.specs.Traces.{turn_numbers}
use Rattle.mdbox_threads.proofs.work.take_turns.Goals as goal

pub replied-replies-requires : goal.replied-replies-requires
replied-replies-requires g c =
    let t = c.take-handed.ensures in
    let same = one_charter c.args.seat.now c.take-handed.result.first c.args.first.now.value c.take-handed.result.world.finished c.args.first.now.value.finished t.charter c.requires.ready.1 in
    record { lane = (c.requires.lane.0, subst (λ w. c.args.lane ≤ length w.rows) (sym same) c.requires.lane.1) }

pub turns-init : goal.turns-init
turns-init g c =
    let t = c.take-handed.ensures in
    (t.turn.0, t.turn.1, t.same.1 _ _ t.charter, t.same.1 _ _ c.requires.ready.1, t.same.0, t.trace)

pub advance-turned-requires : goal.advance-turned-requires
advance-turned-requires g c =
    let i = c.turns.invariant in
    let same = one_charter c.turns.seat c.turns.handed.first c.args.first.now.value c.turns.handed.world.finished c.args.first.now.value.finished i.2 i.3 in
    record { lane = (c.requires.lane.0, subst (λ w. c.args.lane ≤ length w.rows) (sym same) c.requires.lane.1) }

pub go_on-handed-requires-clause-charter : goal.go_on-handed-requires-clause-charter
go_on-handed-requires-clause-charter g c = under_along c.turns.seat c.turns.handed c.advance-turned.new.self c.advance-turned.ensures.same c.turns.invariant.2

pub go_on-handed-requires-clause-trace : goal.go_on-handed-requires-clause-trace
go_on-handed-requires-clause-trace g c = one_turn c.args.lane c.advance-turned.result c.turns.handed c.advance-turned.new.self _ c.turns.invariant.1 c.advance-turned.ensures.turned

pub turns-preserved : goal.turns-preserved
turns-preserved g c =
    let i = c.turns.invariant in let o = c.go_on-handed.ensures in
    let under = under_along c.turns.seat c.turns.handed c.advance-turned.new.self c.advance-turned.ensures.same i.2 in
    let grown = turn_grown c.args.lane c.advance-turned.result c.turns.handed c.advance-turned.new.self (seen_by c.args.seat.now) i.5 c.advance-turned.ensures.turned in
    (o.turn.0, o.turn.1, o.same.1 _ _ (subst (λ h. IsUnder h.first h.world.finished c.turns.seat) (sym o.world) under), o.same.1 _ _ i.3, o.same.0 ∙ i.4, subst (λ h. StartsWith (turn_numbers h.world.turns) (seen_by c.args.seat.now)) (sym o.world) grown)

pub give-requires-clause-charter : goal.give-requires-clause-charter
give-requires-clause-charter g c = under_along c.turns.seat c.turns.handed c.advance-turned.new.self c.advance-turned.ensures.same c.turns.invariant.2

pub give-requires-clause-trace : goal.give-requires-clause-trace
give-requires-clause-trace g c = one_turn c.args.lane c.advance-turned.result c.turns.handed c.advance-turned.new.self _ c.turns.invariant.1 c.advance-turned.ensures.turned

pub returns-in_default-clause-ready : goal.returns-in_default-clause-ready
returns-in_default-clause-ready g c = (c.give.ensures.free, c.give.ensures.same.1 _ _ c.turns.invariant.3)

pub returns-in_default-clause-seen : goal.returns-in_default-clause-seen
returns-in_default-clause-seen g c =
    let i = c.turns.invariant in
    let same = one_charter c.turns.seat c.turns.handed.first c.args.first.now.value c.turns.handed.world.finished c.args.first.now.value.finished i.2 i.3 in
    turn_seen c.args.lane c.args.first.now.value.turn_room c.advance-turned.result c.turns.handed c.advance-turned.new.self (seen_by c.args.seat.now) (seen_by c.give.new.seat) i.5 c.give.ensures.seen (ap (λ w. w.turn_room) same) c.advance-turned.ensures.turned
