use Rattle.std.proofs.Common.{sym, ◌∙◌, ◌≡◌, ap, arith, length, length-append}
use Rattle.script_text.proofs.CutLemmas.{other_decimal}
use Rattle.script_text.proofs.RequestLemmas.{name_cut}
use Rattle.script_text.proofs.arguments.name_octets.Goals as goal

pub returns-in_err-length-clause-none : goal.returns-in_err-length-clause-none
returns-in_err-length-clause-none c =
    rw c.from_residual-in_err-length.ensures (λ name more lt e.
    let r = name_cut c.in_ok-digits.digits.now c.in_ok-digits.rest.now name more c.in_ok-digits.ensures.some.1 lt (sym c.in_ok-digits.ensures.some.0 ∙ e) in
    c.in_err-length.ensures.none (length name) lt r.0)

pub returns-then-rest-length-clause-none : goal.returns-then-rest-length-clause-none
returns-then-rest-length-clause-none c = λ name more lt e.
    let r = name_cut c.in_ok-digits.digits.now c.in_ok-digits.rest.now name more c.in_ok-digits.ensures.some.1 lt (sym c.in_ok-digits.ensures.some.0 ∙ e) in
    let same = other_decimal c.in_ok-length.length (length name) c.in_ok-digits.digits.now (omega arith) lt c.in_ok-length.ensures.some r.0 in
    omega (arith, same, ap length r.1, length-append name more)
