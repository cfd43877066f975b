use Rattle.std.proofs.Common.{sym, ◌∙◌, refl, arith}
use Rattle.script_text.proofs.CutLemmas.{cut_number}
use Rattle.script_text.proofs.RequestLemmas.{small_uid}
use Rattle.script_text.proofs.arguments.uid_and_rest.Goals as goal

pub returns-in_err-uid_of-clause-none : goal.returns-in_err-uid_of-clause-none
returns-in_err-uid_of-clause-none c =
    rw c.from_residual-in_err-uid_of.ensures (λ uid rest h e.
    let r = cut_number 32 uid c.in_ok-word.word.now c.in_ok-word.rest.now rest refl (small_uid uid h) c.in_ok-word.ensures.some.1 (sym c.in_ok-word.ensures.some.0 ∙ e) in
    c.in_err-uid_of.ensures.none uid h r.0)
