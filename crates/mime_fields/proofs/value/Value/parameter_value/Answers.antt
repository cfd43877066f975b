use Rattle.mime_fields.proofs.ReadingLemmas.{value_as_quoted, held_as, none_as, held_token, none_token}
use Rattle.mime_fields.proofs.value.Value.parameter_value.Goals as goal

pub returns-then-accept-clause-some : goal.returns-then-accept-clause-some
returns-then-accept-clause-some c = held_as c.args.self.now c.accept.new.self c.quoted.new.self c.quoted.result (value_as_quoted c.args.self.now c.accept.new.self c.if-accept.ensures.taken) c.quoted.ensures.some

pub returns-then-accept-clause-none : goal.returns-then-accept-clause-none
returns-then-accept-clause-none c = none_as c.args.self.now c.accept.new.self c.quoted.result (value_as_quoted c.args.self.now c.accept.new.self c.if-accept.ensures.taken) c.quoted.ensures.none

pub returns-clause-some : goal.returns-clause-some
returns-clause-some c = held_token c.args.self.now c.accept.new.self c.in_ok-token.token.now c.token.new.self c.hold.result c.if-accept.ensures.taken.0 c.if-accept.ensures.taken.1 c.in_ok-token.ensures.some c.hold.ensures

pub returns-in_err-token-clause-none : goal.returns-in_err-token-clause-none
returns-in_err-token-clause-none c = rw c.from_residual.ensures (none_token c.args.self.now c.accept.new.self c.if-accept.ensures.taken.0 c.if-accept.ensures.taken.1 c.in_err-token.ensures.none)
