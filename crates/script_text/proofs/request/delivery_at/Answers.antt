use Rattle.std.proofs.Common.{arith, rules}
use Rattle.std.specs.Prelude.{IsErrOf}
use Rattle.std.proofs.lemmas.Grind.{common_steps}
use Rattle.mdbox_base.specs.Words.{IsName}
use Rattle.script_text.specs.declared.error.Flaw.TheVariants as flaw
use Rattle.script_text.proofs.AskedLemmas.{no_delivery, short_delivery, unnamed_delivery, whole_delivery}
use Rattle.script_text.proofs.request.delivery_at.Goals as goal

pub returns-in_default-clause-bad : goal.returns-in_default-clause-bad
returns-in_default-clause-bad c = λ is. no_delivery c.args.arguments.now c.args.rest.now c.in_default.ensures.none

pub returns-in_default-message_at-clause-bad : goal.returns-in_default-message_at-clause-bad
returns-in_default-message_at-clause-bad c = λ is.
    let found = c.in-Some.ensures.some in
    short_delivery c.args.arguments.now c.args.rest.now c.in-Some.origin.now c.in-Some.time c.in-Some.size found.0 found.1 found.2 found.3 c.in_default-message_at.ensures.none

pub returns-in_err-name-clause-bad : goal.returns-in_err-name-clause-bad
returns-in_err-name-clause-bad c =
    let none : IsErrOf c.from_residual.result flaw.Bad → IsName c.in-Some.origin.now → ⊥ = first_of (search rules, grind (arith, common_steps)) in λ is.
    let found = c.in-Some.ensures.some in
    unnamed_delivery c.args.arguments.now c.args.rest.now c.in-Some.origin.now c.in-Some.time c.in-Some.size found.0 found.1 found.2 found.3 (none is)

pub returns-in_err-name-clause-memory : goal.returns-in_err-name-clause-memory
returns-in_err-name-clause-memory c =
    let named : IsErrOf c.from_residual.result flaw.NoMemory → IsName c.in-Some.origin.now = first_of (search rules, grind (arith, common_steps)) in λ is.
    let found = c.in-Some.ensures.some in
    let message = c.in-Some-message_at.ensures.some in
    whole_delivery c.args.arguments.now c.args.rest.now c.in-Some.origin.now c.in-Some-message_at.octets.now c.in-Some-message_at.rest.now c.in-Some.time c.in-Some.size (named is) found.1 found.3 message.0 message.1 message.2

pub returns-in_err-push_all-clause-memory : goal.returns-in_err-push_all-clause-memory
returns-in_err-push_all-clause-memory c = λ is.
    let found = c.in-Some.ensures.some in
    let message = c.in-Some-message_at.ensures.some in
    whole_delivery c.args.arguments.now c.args.rest.now c.in-Some.origin.now c.in-Some-message_at.octets.now c.in-Some-message_at.rest.now c.in-Some.time c.in-Some.size c.in_ok-name.ensures.found.1 found.1 found.3 message.0 message.1 message.2
