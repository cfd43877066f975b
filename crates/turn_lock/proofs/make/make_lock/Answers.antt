use Rattle.std.proofs.Common.{rules, arith, ◌<◌, ◌∙◌, ap, [], length, replicate}
use Rattle.turn_lock.specs.LockRule.{first_seat}
use Rattle.turn_lock.proofs.DealLemmas.{splits_keep, none_dealt, one_dealt, all_dealt, opens_keep}
use Rattle.turn_lock.proofs.make.make_lock.Goals as goal

pub new-requires : goal.new-requires
new-requires g c = opens_keep _ (replicate 64 0) _ c.args.world _ c.of-first_world.ensures (search rules)

pub deal-init : goal.deal-init
deal-init g c =
    let tells : Rattle.turn_lock.specs.LockRule.Tells g.row.W.Denot g.row.W-Terms.Denot = record { charter = g.W.Charter.charter; trace = g.W.Charter.trace; finished = g.W.Charter.finished } in
    (none_dealt _ _ _ _ _ c.in-Ok.ensures.items c.in-Ok-new.ensures.ok.2 (c.in-Ok-new.ensures.ok.4 ∙ ap (λ w. (first_seat tells w, [])) c.of-first_world.ensures), search rules, search rules)

pub split_seat-seat-requires : goal.split_seat-seat-requires
split_seat-seat-requires g c =
    let d = c.deal.invariant.0 in let p = d.parts in let l : length c.deal.dealt.items < 64 = search rules in
    (d.id, search rules, splits_keep _ _ _ _ _ d.place (omega arith))

pub deal-preserved : goal.deal-preserved
deal-preserved g c =
    let s = c.split_seat-seat.ensures in
    (one_dealt _ _ _ _ _ _ _ _ c.deal.invariant.0 (search rules) c.push_reserved.ensures.items s.0 s.2 s.3 s.4, search rules, search rules)

pub returns-after-deal-clause-free : goal.returns-after-deal-clause-free
returns-after-deal-clause-free g c = (all_dealt _ _ _ _ _ _ c.deal.invariant.0 (search rules) (c.of.ensures ∙ c.push_reserved-in-Ok-new.ensures.items)).0

pub returns-after-deal-clause-all : goal.returns-after-deal-clause-all
returns-after-deal-clause-all g c = (all_dealt _ _ _ _ _ _ c.deal.invariant.0 (search rules) (c.of.ensures ∙ c.push_reserved-in-Ok-new.ensures.items)).1

pub returns-after-deal-clause-charter : goal.returns-after-deal-clause-charter
returns-after-deal-clause-charter g c = (all_dealt _ _ _ _ _ _ c.deal.invariant.0 (search rules) (c.of.ensures ∙ c.push_reserved-in-Ok-new.ensures.items)).2

pub returns-after-deal-clause-trace : goal.returns-after-deal-clause-trace
returns-after-deal-clause-trace g c = (all_dealt _ _ _ _ _ _ c.deal.invariant.0 (search rules) (c.of.ensures ∙ c.push_reserved-in-Ok-new.ensures.items)).3
