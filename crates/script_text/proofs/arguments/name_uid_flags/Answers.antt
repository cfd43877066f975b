use Rattle.std.proofs.Common.{sym, ◌∙◌, ◌++◌, ◌∷◌, List, ℕ, ap, arith, rules}
use Rattle.std.specs.Prelude.{IsErrOf}
use Rattle.std.proofs.lemmas.Grind.{common_steps}
use Rattle.mdbox_base.specs.Numbers.{decimal_text}
use Rattle.mdbox_base.specs.Words.{IsName}
use Rattle.script_text.specs.Script.{name_word}
use Rattle.script_text.specs.declared.error.Flaw.TheVariants as flaw
use Rattle.script_text.proofs.RequestLemmas.{name_uid_then, short_name}
use Rattle.script_text.proofs.arguments.name_uid_flags.Goals as goal

pub returns-in_default-clause-bad : goal.returns-in_default-clause-bad
returns-in_default-clause-bad c = λ is name uid flags n u f e. c.in_default.ensures.none name uid (decimal_text flags) (short_name name n) u e

pub returns-in_default-flags_from-clause-bad : goal.returns-in_default-flags_from-clause-bad
returns-in_default-flags_from-clause-bad c = λ is name uid flags n u f e.
    let found = c.in-Some.ensures.some in
    let r = name_uid_then c.in-Some.octets.now name c.in-Some.uid.0 uid c.in-Some.word.now (decimal_text flags) found.0 (short_name name n) found.1 u (sym found.2 ∙ e) in
    c.in_default-flags_from.ensures.none flags f r.1

pub returns-in_err-name-clause-bad : goal.returns-in_err-name-clause-bad
returns-in_err-name-clause-bad c =
    let none : IsErrOf c.from_residual.result flaw.Bad → IsName c.in-Some.octets.now → ⊥ = first_of (search rules, grind (arith, common_steps)) in λ is name uid flags n u f e.
    let found = c.in-Some.ensures.some in
    let r = name_uid_then c.in-Some.octets.now name c.in-Some.uid.0 uid c.in-Some.word.now (decimal_text flags) found.0 (short_name name n) found.1 u (sym found.2 ∙ e) in
    none is (rw r.0 n)

pub returns-in_err-name-clause-memory : goal.returns-in_err-name-clause-memory
returns-in_err-name-clause-memory c =
    let named : IsErrOf c.from_residual.result flaw.NoMemory → IsName c.in-Some.octets.now = first_of (search rules, grind (arith, common_steps)) in λ is.
    let found = c.in-Some.ensures.some in
    let bits = c.in-Some-flags_from.ensures.some in
    (c.in-Some.octets.now, c.in-Some.uid.0, c.in-Some-flags_from.flags, named is, found.1, bits.0, found.2 ∙ ap (λ (t : List ℕ). name_word c.in-Some.octets.now ++ 32 ∷ (decimal_text c.in-Some.uid.0 ++ 32 ∷ t)) bits.1)
