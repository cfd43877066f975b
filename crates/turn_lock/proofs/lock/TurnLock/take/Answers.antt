use Rattle.std.proofs.Common.{rules, ◌∙◌, sym, ap, Some, ◌∷◌}
use Rattle.turn_lock.specs.Seats.{found_at_place}
use Rattle.turn_lock.proofs.TurnLemmas.{draws_keep, looks_keep}
use Rattle.turn_lock.proofs.ToldLemmas.{drew, hit, took}
use Rattle.atomic_table.specs.Table.{rest}
use Rattle.turn_lock.proofs.lock.TurnLock.take.Goals as goal

pub fetch_add-ticket-requires : goal.fetch_add-ticket-requires
fetch_add-ticket-requires g c = let r = c.requires.free in (search rules, search rules, draws_keep _ _ _ _ _ r.1.0 r.1.1 r.1.2)

pub load-ended-requires : goal.load-ended-requires
load-ended-requires g c = let d = drew _ _ _ _ c.requires.free.1.1 c.fetch_add-ticket.ensures.2 in (search rules, search rules, looks_keep _ _ _ _ _ _ _ (c.loop.invariant.1 ∙ d.2))

pub exchange-requires : goal.exchange-requires
exchange-requires g c =
    let d = drew _ _ _ _ c.requires.free.1.1 c.fetch_add-ticket.ensures.2 in
    let h = hit _ _ _ _ _ _ (c.loop.invariant.1 ∙ d.2) c.load-ended.ensures.2 (c.if-ended-ticket.true ∙ d.1) in
    (search rules, (Some h.0, ap (λ m. m.1) h.1 ∙ ap (λ m. (0, Some h.0) ∷ rest m.1) (sym h.1)))

pub returns-then-ended-ticket-clause-turn : goal.returns-then-ended-ticket-clause-turn
returns-then-ended-ticket-clause-turn g c =
    let d = drew _ _ _ _ c.requires.free.1.1 c.fetch_add-ticket.ensures.2 in
    let h = hit _ _ _ _ _ _ (c.loop.invariant.1 ∙ d.2) c.load-ended.ensures.2 (c.if-ended-ticket.true ∙ d.1) in
    let x = c.exchange.ensures in
    let t = took g.W.Charter.trace _ _ _ _ h.0 _ _ h.1 x.2 c.in-Some-exchange.is x.3 in
    ((search rules, (_, _, _, t.1, c.requires.free.1.2)), ap (λ m. found_at_place m.0) t.1)
