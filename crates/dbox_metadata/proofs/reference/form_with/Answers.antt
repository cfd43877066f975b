use Rattle.std.proofs.Common.{◌≡◌, sym, ◌∙◌, arith}
use Rattle.std.proofs.lemmas.Fmt.{decimal_injective}
use Rattle.dbox_metadata.proofs.reference.form_with.Goals as goal
use Rattle.dbox_metadata.proofs.reference.form_with.Goals.{else-length-ge4-via-then-length-ge4+then-length-le996+else-length-eq0, else-length-ge4-via-then-length-ge4+else-length-le996, else-length-ge4-via-else-length-ge4}

pub returns-else-length-ge4-clause-none : goal.returns-else-length-ge4-clause-none
returns-else-length-ge4-clause-none c = λ form fits e.
    let same : c.in_ok-length.length ≡ form.length = decimal_injective c.in_ok-length.length form.length (omega (arith, c.in_ok-length.ensures.some.0)) (omega (arith, fits.most)) (sym c.in_ok-length.ensures.some.1 ∙ e) in
    elim c.else-length-ge4.branch [
      | else-length-ge4-via-then-length-ge4+then-length-le996+else-length-eq0 w ↦ omega (arith, same, fits.fours)
      | else-length-ge4-via-then-length-ge4+else-length-le996 w ↦ omega (arith, same, fits.most)
      | else-length-ge4-via-else-length-ge4 w ↦ omega (arith, same, fits.least)
    ]
