use Rattle.std.proofs.Common.{rules, ◌∙◌}
use Rattle.turn_lock.proofs.TurnLemmas.{ends_keep}
use Rattle.turn_lock.proofs.ToldLemmas.{put, ended, longer, suits}
use Rattle.turn_lock.proofs.lock.TurnLock.give.Goals as goal

pub fetch_add-ticket-requires : goal.fetch_add-ticket-requires
fetch_add-ticket-requires g c =
    let r = c.requires.turn.1 in let p = put c.args.seat.now.seat.me c.exchange.new.seat.me _ _ _ _ r.3 c.exchange.ensures.3 in
    (search rules, search rules, ends_keep _ _ _ _ _ _ _ _ c.args.world p (suits _ _ _ _ _ _ r.3 c.requires.charter) (longer _ _ _ _ _ r.3 c.requires.trace))

pub returns-clause-free : goal.returns-clause-free
returns-clause-free g c =
    let r = c.requires.turn.1 in let p = put c.args.seat.now.seat.me c.exchange.new.seat.me _ _ _ _ r.3 c.exchange.ensures.3 in
    (search rules, (_, c.call_on.ensures.1 ∙ ended (record { charter = g.W.Charter.charter; trace = g.W.Charter.trace; finished = g.W.Charter.finished }) _ _ _ _ _ _ p c.fetch_add-ticket.ensures.2, r.4))
