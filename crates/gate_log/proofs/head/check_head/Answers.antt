use Rattle.std.proofs.Common.{sym, ◌∙◌}
use Rattle.gate_log.proofs.HeadLemmas.{octets_of, other_text, short_text, same_text}
use Rattle.gate_log.proofs.head.check_head.Goals as goal

pub returns-in-Some : goal.returns-in-Some
returns-in-Some c = other_text c.args.head c.args.octets.now c.head_text.result c.in-Some.place c.fits.ensures c.head_text.ensures (octets_of c.args.octets.now c.type_inv.octets) (sym c.first_difference.ensures ∙ c.in-Some.is)

pub returns-in-None : goal.returns-in-None
returns-in-None c = short_text c.args.head c.args.octets.now c.head_text.result c.fits.ensures c.head_text.ensures (octets_of c.args.octets.now c.type_inv.octets) (sym c.first_difference.ensures ∙ c.in-None.is) c.if-octets-le-HEAD_SIZE.true

pub returns-in-None-2 : goal.returns-in-None-2
returns-in-None-2 c = (c.fits.ensures, c.if-octets-le-HEAD_SIZE.false, same_text c.args.head c.args.octets.now c.head_text.result c.fits.ensures c.head_text.ensures (sym c.first_difference.ensures ∙ c.in-None.is) c.if-octets-le-HEAD_SIZE.false)
