use Rattle.std.proofs.Common.{sym, ◌∙◌, refl, arith}
use Rattle.file_paths.proofs.ReadLemmas.{cut_number}
use Rattle.file_paths.proofs.read.numbers_of.Goals as goal

pub returns-in_err-number_of-clause-none : goal.returns-in_err-number_of-clause-none
returns-in_err-number_of-clause-none c =
    rw c.from_residual-in_err-number_of.ensures (λ m n hm hn e.
    let r = cut_number 46 m c.in_ok-first.first.now c.in_ok-first.second.now _ refl (omega (arith, hm.high)) c.in_ok-first.ensures.some.1 (sym c.in_ok-first.ensures.some.0 ∙ e) in
    c.in_err-number_of.ensures.none m hm r.0)

pub returns-in_err-number_of-2-clause-none : goal.returns-in_err-number_of-2-clause-none
returns-in_err-number_of-2-clause-none c =
    rw c.from_residual-in_err-number_of-2.ensures (λ m n hm hn e.
    let r = cut_number 46 m c.in_ok-first.first.now c.in_ok-first.second.now _ refl (omega (arith, hm.high)) c.in_ok-first.ensures.some.1 (sym c.in_ok-first.ensures.some.0 ∙ e) in
    c.in_err-number_of-2.ensures.none n hn r.1)
