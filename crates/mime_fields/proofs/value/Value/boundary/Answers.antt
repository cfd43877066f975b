use Rattle.std.proofs.Common.{sym, refl}
use Rattle.mime_fields.proofs.ParameterLemmas.{search_fails, search_ends, search_stops, search_goes_on}
use Rattle.mime_fields.proofs.value.Value.boundary.Goals as goal

pub returns-in_err-parameter-clause-none : goal.returns-in_err-parameter-clause-none
returns-in_err-parameter-clause-none c = rw c.from_residual.ensures (search_fails c.args.self.now c.loop-parameter.self c.loop-parameter.invariant c.in_err-parameter.ensures.none)

pub returns-then-is_word-clause-some : goal.returns-then-is_word-clause-some
returns-then-is_word-clause-some c = search_ends c.args.self.now c.loop-parameter.self c.in_ok-parameter.parameter.name.now c.parameter.new.self c.in_ok-parameter.parameter.value c.loop-parameter.invariant c.in_ok-parameter.ensures.some (sym c.if-is_word.ensures)

pub returns-then-not-accept-clause-none : goal.returns-then-not-accept-clause-none
returns-then-not-accept-clause-none c = search_stops c.args.self.now c.loop-parameter.self c.in_ok-parameter.parameter.name.now c.parameter.new.self c.in_ok-parameter.parameter.value c.loop-parameter.invariant c.in_ok-parameter.ensures.some (sym c.if-is_word.ensures) c.if-not-accept.ensures.taken.0

pub loop-parameter-preserved : goal.loop-parameter-preserved
loop-parameter-preserved c = search_goes_on _ c.loop-parameter.self c.in_ok-parameter.parameter.name.now c.parameter.new.self c.accept.new.self c.in_ok-parameter.parameter.value c.loop-parameter.invariant c.in_ok-parameter.ensures.some (sym c.if-is_word.ensures) c.if-not-accept.ensures.taken c.in_ok-parameter.ensures.less (c.if-not-accept.ensures.one refl)
