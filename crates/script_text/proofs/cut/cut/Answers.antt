use Rattle.script_text.proofs.CutLemmas.{none_before, cut_here, no_mark}
use Rattle.script_text.proofs.cut.cut.Goals as goal

pub returns-in_err-place-clause-none : goal.returns-in_err-place-clause-none
returns-in_err-place-clause-none c =
    rw c.from_residual.ensures (no_mark c.args.mark c.args.text.now c.in_err-place.ensures)

pub returns-clause-some : goal.returns-clause-some
returns-clause-some c =
    let found = c.in_ok-place.ensures in (
      cut_here c.args.mark c.in_ok-place.place c.args.text.now found.0.high found.1,
      none_before c.args.mark c.args.text.now c.in_ok-place.place found.0.before,
    )
