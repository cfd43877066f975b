use Rattle.mail_ops.proofs.Common.{ap, arith}
use Rattle.mail_ops.proofs.MakeCallLemmas.{naming_fits}
use Rattle.mail_ops.proofs.making.name_event.Goals as goal

pub append_made-requires-clause-fits : goal.append_made-requires-clause-fits
append_made-requires-clause-fits g c =
    naming_fits _ c.args.name.now c.args.number.0 c.args.store.now c.facts.ensures.store c.requires.free (c.known_logs.ensures.made c.args.number.0 c.requires.ready).0 (let low = c.if-number-highest.false in let high = ap (λ h. h.mailbox) c.highest.ensures in let m = ap (λ m. m.highest.mailbox) c.map.ensures in omega (arith, low, high, m))
