use Rattle.std.proofs.Common.{sym, ◌∙◌, ◌++◌, ◌∷◌, arith, rules}
use Rattle.std.specs.Prelude.{IsErrOf}
use Rattle.std.proofs.lemmas.Grind.{common_steps}
use Rattle.mdbox_base.specs.Numbers.{decimal_text}
use Rattle.mdbox_base.specs.Words.{IsName}
use Rattle.script_text.specs.declared.error.Flaw.TheVariants as flaw
use Rattle.script_text.proofs.RequestLemmas.{name_then, short_name}
use Rattle.script_text.proofs.arguments.name_time_size.Goals as goal

pub returns-in_default-clause-bad : goal.returns-in_default-clause-bad
returns-in_default-clause-bad c = λ is name time size n tl sl e. c.in_default.ensures.none name time size (short_name name n) tl sl e

pub returns-in_err-name-clause-bad : goal.returns-in_err-name-clause-bad
returns-in_err-name-clause-bad c =
    let none : IsErrOf c.from_residual.result flaw.Bad → IsName c.in-Some.octets.now → ⊥ = first_of (search rules, grind (arith, common_steps)) in λ is name time size n tl sl e.
    let found = c.in-Some.ensures.some in
    let r = name_then c.in-Some.octets.now name (decimal_text c.in-Some.time ++ 32 ∷ decimal_text c.in-Some.size) (decimal_text time ++ 32 ∷ decimal_text size) found.0 (short_name name n) (sym found.3 ∙ e) in
    none is (rw r.0 n)
