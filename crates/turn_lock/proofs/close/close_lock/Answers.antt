use Rattle.std.proofs.Common.{rules, ◌∙◌, sym, ap, subst}
use Rattle.turn_lock.proofs.JoinLemmas.{first_collected, more_collected, last_is_free, joins_keep, world_home, none_left, AllSeen}
use Rattle.turn_lock.proofs.ToldLemmas.{some_same, some_or_none}
use Rattle.turn_lock.proofs.close.close_lock.Goals as goal
use Rattle.turn_lock.proofs.close.close_lock.Goals.{After-take}

pub loop-next-init : goal.loop-next-init
loop-next-init g c =
    let items = sym c.into_vec-seats.ensures ∙ c.pop.ensures.items in
    ((last_is_free _ _ _ _ _ c.in-Some.is items c.requires.free).0, first_collected _ _ _ _ _ c.in-Some.is items c.requires.free c.requires.all)

pub join_seat-requires : goal.join_seat-requires
join_seat-requires g c =
    let old = c.loop-next.invariant.1 in
    let f = last_is_free _ _ _ _ _ c.in-Some-pop.is c.pop-in-loop-next.ensures.items old.free in
    (c.loop-next.invariant.0, f.0, ap (λ m. m.1) f.1.1, search rules, joins_keep _ _ _ _ _ _ _ _ old.place f.1.1)

pub loop-next-preserved : goal.loop-next-preserved
loop-next-preserved g c = (c.join_seat.ensures.0 ∙ c.loop-next.invariant.0, more_collected _ _ _ _ _ _ _ _ c.in-Some-pop.is c.pop-in-loop-next.ensures.items c.join_seat.ensures.2 c.loop-next.invariant.1)

pub unreachable-requires-in_default-take : goal.unreachable-requires-in_default-take
unreachable-requires-in_default-take g c =
    let h = world_home _ _ _ _ _ _ _ _ _ _ (none_left _ _ _ _ _ (search rules) c.in_default-pop.is c.pop-in-loop-next.ensures.cases) c.loop-next.invariant.1 c.close_with-closed.ensures.values.2 c.take.ensures.value in
    some_or_none _ (sym h.1 ∙ c.in_default-take.is)

pub returns-clause-charter : goal.returns-clause-charter
returns-clause-charter g c =
    let h = world_home _ _ _ _ _ _ _ _ _ _ (none_left _ _ _ _ _ (search rules) c.in_default-pop.is c.pop-in-loop-next.ensures.cases) c.loop-next.invariant.1 c.close_with-closed.ensures.values.2 c.take.ensures.value in
    let same = some_same _ _ (sym h.1 ∙ c.in-Some-take.is) in
    λ charter finished all. let t = h.2 charter finished all in (ap g.W.Charter.charter (sym same) ∙ t.0, ap g.W.Charter.finished (sym same) ∙ t.1)

pub returns-clause-trace : goal.returns-clause-trace
returns-clause-trace g c =
    let h = world_home _ _ _ _ _ _ _ _ _ _ (none_left _ _ _ _ _ (search rules) c.in_default-pop.is c.pop-in-loop-next.ensures.cases) c.loop-next.invariant.1 c.close_with-closed.ensures.values.2 c.take.ensures.value in
    let same = some_same _ _ (sym h.1 ∙ c.in-Some-take.is) in
    subst (λ w. AllSeen (g.W.Charter.trace w) c.args.seats) same h.3
