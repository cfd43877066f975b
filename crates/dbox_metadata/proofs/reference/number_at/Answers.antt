use Rattle.std.proofs.Common.{sym, ◌∙◌, refl, arith}
use Rattle.dbox_metadata.proofs.SplitLemmas.{cut_number}
use Rattle.dbox_metadata.proofs.reference.number_at.Goals as goal

pub returns-in_err-number_of-clause-none : goal.returns-in_err-number_of-clause-none
returns-in_err-number_of-clause-none c =
    rw c.from_residual-in_err-number_of.ensures (λ n behind lt e.
    let r = cut_number 32 n c.in_ok-digits.digits.now c.in_ok-digits.rest.now behind refl (omega (arith, lt)) c.in_ok-digits.ensures.some.1 (sym c.in_ok-digits.ensures.some.0 ∙ e) in
    c.in_err-number_of.ensures.none n lt r.0)
