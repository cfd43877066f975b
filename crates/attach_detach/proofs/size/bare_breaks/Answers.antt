use Rattle.std.proofs.Common.{◌∙◌, [], ap, sym, arith, append-nil}
use Rattle.model_attach.specs.VirtualSize.{bare_breaks}
use Rattle.attach_detach.proofs.size.bare_breaks.Goals as goal

pub returns-clause-count : goal.returns-clause-count
returns-clause-count c =
    let last = ap (bare_breaks c.loop-rest.before) (sym (append-nil c.loop-rest.rest.now)) ∙ c.bare_in-count-2.ensures.count [] in
    omega (arith, last, c.loop-rest.invariant.0, c.from.ensures)
