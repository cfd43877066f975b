use Rattle.std.proofs.Common.{sym, ◌∙◌, ◌++◌, ◌∷◌, List, ℕ, ap, arith, rules}
use Rattle.std.specs.Prelude.{IsErrOf}
use Rattle.std.proofs.lemmas.Grind.{common_steps}
use Rattle.mdbox_base.specs.Numbers.{decimal_text}
use Rattle.mdbox_base.specs.Words.{IsName}
use Rattle.script_text.specs.Script.{name_word}
use Rattle.script_text.specs.declared.error.Flaw.TheVariants as flaw
use Rattle.script_text.proofs.RequestLemmas.{name_then, short_name}
use Rattle.script_text.proofs.arguments.name_and_uid.Goals as goal

pub returns-in_default-clause-bad : goal.returns-in_default-clause-bad
returns-in_default-clause-bad c = λ is name uid n u e. c.in_default.ensures.none name (decimal_text uid) (short_name name n) e

pub returns-in_default-uid_of-clause-bad : goal.returns-in_default-uid_of-clause-bad
returns-in_default-uid_of-clause-bad c = λ is name uid n u e.
    let found = c.in-Some.ensures.some in
    let r = name_then c.in-Some.octets.now name c.in-Some.word.now (decimal_text uid) found.0 (short_name name n) (sym found.1 ∙ e) in
    c.in_default-uid_of.ensures.none uid u r.1

pub returns-in_err-name-clause-bad : goal.returns-in_err-name-clause-bad
returns-in_err-name-clause-bad c =
    let none : IsErrOf c.from_residual.result flaw.Bad → IsName c.in-Some.octets.now → ⊥ = first_of (search rules, grind (arith, common_steps)) in λ is name uid n u e.
    let found = c.in-Some.ensures.some in
    let r = name_then c.in-Some.octets.now name c.in-Some.word.now (decimal_text uid) found.0 (short_name name n) (sym found.1 ∙ e) in
    none is (rw r.0 n)

pub returns-in_err-name-clause-memory : goal.returns-in_err-name-clause-memory
returns-in_err-name-clause-memory c =
    let named : IsErrOf c.from_residual.result flaw.NoMemory → IsName c.in-Some.octets.now = first_of (search rules, grind (arith, common_steps)) in λ is.
    let found = c.in-Some.ensures.some in
    let number = c.in-Some-uid_of.ensures.some in
    (c.in-Some.octets.now, c.in-Some-uid_of.uid.0, named is, number.0, found.1 ∙ ap (λ (t : List ℕ). name_word c.in-Some.octets.now ++ 32 ∷ t) number.1)
