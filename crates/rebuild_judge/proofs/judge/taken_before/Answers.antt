use Rattle.std.proofs.Common.{◌∙◌, sym, ap}
use Rattle.std.specs.Option.{option_copied}
use Rattle.rebuild_judge.proofs.BeforeLemmas.{none_before, one_before}
use Rattle.rebuild_judge.proofs.judge.taken_before.Goals as goal

pub returns-in_err-place : goal.returns-in_err-place
returns-in_err-place c = λ files taken kept. ap option_copied c.from_residual.ensures ∙ none_before files taken c.args.keeping.now c.args.guid.0 kept (sym c.in_err-place.ensures.value)

pub returns : goal.returns
returns c = λ files taken kept. one_before files taken c.args.keeping.now c.args.guid.0 c.in_ok-place.place.now c.at.result kept (sym c.in_ok-place.ensures.value) c.at.ensures.some c.at.ensures.none
