use Rattle.std.proofs.Common.{◌≡◌, ◌<◌, Ok, sym, ◌∙◌, arith}
use Rattle.std.proofs.lemmas.Fmt.{decimal_injective}
use Rattle.std.proofs.lemmas.Result.{Ok-from_Ok_iff}
use Rattle.dbox_metadata.proofs.SplitLemmas.{none_if}
use Rattle.dbox_metadata.proofs.reference.number_of.Goals as goal

pub returns-clause-none : goal.returns-clause-none
returns-clause-none c = none_if c.ok.result (λ is_none n lt e.
    let same : c.in_ok-read_decimal.field-0 ≡ n = decimal_injective c.in_ok-read_decimal.field-0 n (omega arith) (omega (arith, lt)) (sym c.in_ok-read_decimal.ensures.some ∙ e) in
    let fits : c.in_ok-read_decimal.field-0 < 4294967296 = omega (arith, lt, same) in
    let is : c.try_from.result ≡ Ok c.in_ok-read_decimal.field-0 = Ok-from_Ok_iff _ _ _ c.try_from.ensures fits in
    let some = sym is_none ∙ rw is at c.ok.ensures.value in
    absurd (cc some))
