use Rattle.std.proofs.Common.{sym}
use Rattle.mime_fields.proofs.ParameterLemmas.{unnamed, no_equals, no_value, no_end, is_parameter}
use Rattle.mime_fields.proofs.value.Value.parameter.Goals as goal

pub returns-in_err-name-clause-none : goal.returns-in_err-name-clause-none
returns-in_err-name-clause-none c = rw c.from_residual.ensures (unnamed c.args.self.now c.skip_blanks.new.self c.skip_blanks.ensures.same c.in_err-name.ensures.none)

pub returns-then-not-accept-clause-none : goal.returns-then-not-accept-clause-none
returns-then-not-accept-clause-none c = no_equals c.args.self.now c.skip_blanks.new.self c.token.new.self c.skip_blanks-2.new.self c.in_ok-name.name.now c.skip_blanks.ensures.same c.in_ok-name.ensures.some c.skip_blanks-2.ensures.same c.if-not-accept.ensures.taken.0

pub returns-in_err-value-clause-none : goal.returns-in_err-value-clause-none
returns-in_err-value-clause-none c = rw c.from_residual-in_err-value.ensures (no_value c.args.self.now c.skip_blanks.new.self c.token.new.self c.skip_blanks-2.new.self c.accept.new.self c.skip_blanks-3.new.self c.in_ok-name.name.now c.skip_blanks.ensures.same c.in_ok-name.ensures.some c.skip_blanks-2.ensures.same c.if-not-accept.ensures.taken c.skip_blanks-3.ensures.same c.in_err-value.ensures.none)

pub returns-then-ends_parameter-clause-some : goal.returns-then-ends_parameter-clause-some
returns-then-ends_parameter-clause-some c = is_parameter c.args.self.now c.skip_blanks.new.self c.token.new.self c.skip_blanks-2.new.self c.accept.new.self c.skip_blanks-3.new.self c.parameter_value.new.self c.skip_blanks-4.new.self c.in_ok-name.name.now c.in_ok-value.value c.skip_blanks.ensures.same c.in_ok-name.ensures.some c.skip_blanks-2.ensures.same c.if-not-accept.ensures.taken c.skip_blanks-3.ensures.same c.in_ok-value.ensures.some c.skip_blanks-4.ensures.same (sym c.if-ends_parameter.ensures)

pub returns-else-ends_parameter-clause-none : goal.returns-else-ends_parameter-clause-none
returns-else-ends_parameter-clause-none c = no_end c.args.self.now c.skip_blanks.new.self c.token.new.self c.skip_blanks-2.new.self c.accept.new.self c.skip_blanks-3.new.self c.parameter_value.new.self c.skip_blanks-4.new.self c.in_ok-name.name.now c.in_ok-value.value c.skip_blanks.ensures.same c.in_ok-name.ensures.some c.skip_blanks-2.ensures.same c.if-not-accept.ensures.taken c.skip_blanks-3.ensures.same c.in_ok-value.ensures.some c.skip_blanks-4.ensures.same (sym c.if-ends_parameter.ensures)
