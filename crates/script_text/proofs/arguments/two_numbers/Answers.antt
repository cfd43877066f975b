use Rattle.std.proofs.Common.{sym, ◌∙◌, refl, arith, ap}
use Rattle.script_text.proofs.CutLemmas.{cut_number}
use Rattle.script_text.proofs.arguments.two_numbers.Goals as goal

pub returns-in_err-read_decimal-clause-none : goal.returns-in_err-read_decimal-clause-none
returns-in_err-read_decimal-clause-none c =
    rw c.from_residual-in_err-read_decimal.ensures (λ m n hm hn e.
    let r = cut_number 32 m c.in_ok-first.first.now c.in_ok-first.second.now _ refl hm c.in_ok-first.ensures.some.1 (sym c.in_ok-first.ensures.some.0 ∙ e) in
    c.in_err-read_decimal.ensures.none m hm r.0)

pub returns-in_err-read_decimal-2-clause-none : goal.returns-in_err-read_decimal-2-clause-none
returns-in_err-read_decimal-2-clause-none c =
    rw c.from_residual-in_err-read_decimal-2.ensures (λ m n hm hn e.
    let r = cut_number 32 m c.in_ok-first.first.now c.in_ok-first.second.now _ refl hm c.in_ok-first.ensures.some.1 (sym c.in_ok-first.ensures.some.0 ∙ e) in
    c.in_err-read_decimal-2.ensures.none n hn r.1)
