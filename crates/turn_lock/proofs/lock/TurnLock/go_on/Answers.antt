use Rattle.std.proofs.Common.{rules, ◌∙◌, ap, sym, Some, ◌∷◌}
use Rattle.atomic_table.specs.Table.{rest}
use Rattle.turn_lock.specs.Seats.{found_at_place}
use Rattle.turn_lock.proofs.TurnLemmas.{goes_on_keep}
use Rattle.turn_lock.proofs.ToldLemmas.{put, longer, suits, took, went_on}
use Rattle.turn_lock.proofs.lock.TurnLock.go_on.Goals as goal

pub load-requires : goal.load-requires
load-requires g c =
    let r = c.requires.turn.1 in let p = put c.args.seat.now.seat.me c.exchange.new.seat.me _ _ _ _ r.3 c.exchange.ensures.3 in
    (search rules, search rules, goes_on_keep _ _ _ _ _ _ _ _ c.args.world p (suits _ _ _ _ _ _ r.3 c.requires.charter) (longer _ _ _ _ _ r.3 c.requires.trace))

pub exchange-requires-2 : goal.exchange-requires-2
exchange-requires-2 g c =
    let r = c.requires.turn.1 in let p = put c.args.seat.now.seat.me c.exchange.new.seat.me _ _ _ _ r.3 c.exchange.ensures.3 in
    let w = went_on (record { charter = g.W.Charter.charter; trace = g.W.Charter.trace; finished = g.W.Charter.finished }) _ _ _ _ _ c.args.world p c.load.ensures.2 in
    (search rules, (Some c.args.world, ap (λ m. m.1) w ∙ ap (λ m. (0, Some c.args.world) ∷ rest m.1) (sym w)))

pub returns-clause-turn : goal.returns-clause-turn
returns-clause-turn g c =
    let r = c.requires.turn.1 in let p = put c.args.seat.now.seat.me c.exchange.new.seat.me _ _ _ _ r.3 c.exchange.ensures.3 in
    let w = went_on (record { charter = g.W.Charter.charter; trace = g.W.Charter.trace; finished = g.W.Charter.finished }) _ _ _ _ _ c.args.world p c.load.ensures.2 in
    let x = c.exchange-2.ensures in
    let t = took g.W.Charter.trace _ _ _ _ c.args.world _ _ w x.2 c.in-Some-exchange.is x.3 in
    ((search rules, (_, _, _, t.1, r.4)), ap (λ m. found_at_place m.0) t.1)
