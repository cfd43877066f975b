use Rattle.std.proofs.Common.{sym, ◌∙◌, ◌++◌, ◌∷◌, List, ℕ, ap, arith, rules}
use Rattle.std.specs.Prelude.{IsErrOf}
use Rattle.std.proofs.lemmas.Grind.{common_steps}
use Rattle.mdbox_base.specs.Numbers.{decimal_text}
use Rattle.mdbox_base.specs.Words.{IsName}
use Rattle.script_text.specs.Script.{name_word}
use Rattle.script_text.specs.declared.error.Flaw.TheVariants as flaw
use Rattle.script_text.proofs.RequestLemmas.{name_is, name_uid_then, short_name}
use Rattle.script_text.proofs.arguments.name_uid_name.Goals as goal

pub returns-in_default-clause-bad : goal.returns-in_default-clause-bad
returns-in_default-clause-bad c = λ is name uid target n u t e. c.in_default.ensures.none name uid (name_word target) (short_name name n) u e

pub returns-in_default-octets_alone-clause-bad : goal.returns-in_default-octets_alone-clause-bad
returns-in_default-octets_alone-clause-bad c = λ is name uid target n u t e.
    let found = c.in-Some.ensures.some in
    let r = name_uid_then c.in-Some.first.now name c.in-Some.uid.0 uid c.in-Some.word.now (name_word target) found.0 (short_name name n) found.1 u (sym found.2 ∙ e) in
    c.in_default-octets_alone.ensures.none target (short_name target t) r.1

pub returns-in_err-name-clause-bad : goal.returns-in_err-name-clause-bad
returns-in_err-name-clause-bad c =
    let none : IsErrOf c.from_residual.result flaw.Bad → IsName c.in-Some.first.now → IsName c.in-Some-octets_alone.second.now → ⊥ = first_of (search rules, grind (arith, common_steps)) in λ is name uid target n u t e.
    let found = c.in-Some.ensures.some in
    let other = c.in-Some-octets_alone.ensures.some in
    let r = name_uid_then c.in-Some.first.now name c.in-Some.uid.0 uid c.in-Some.word.now (name_word target) found.0 (short_name name n) found.1 u (sym found.2 ∙ e) in
    let same = name_is c.in-Some-octets_alone.second.now target other.0 (short_name target t) (sym other.1 ∙ r.1) in
    none is (rw r.0 n) (rw same t)

pub returns-in_err-name-clause-memory : goal.returns-in_err-name-clause-memory
returns-in_err-name-clause-memory c =
    let named : IsErrOf c.from_residual.result flaw.NoMemory → IsName c.in-Some.first.now × IsName c.in-Some-octets_alone.second.now = first_of (search rules, grind (arith, common_steps)) in λ is.
    let found = c.in-Some.ensures.some in
    let other = c.in-Some-octets_alone.ensures.some in
    let both = named is in
    (c.in-Some.first.now, c.in-Some.uid.0, c.in-Some-octets_alone.second.now, both.0, found.1, both.1, found.2 ∙ ap (λ (t : List ℕ). name_word c.in-Some.first.now ++ 32 ∷ (decimal_text c.in-Some.uid.0 ++ 32 ∷ t)) other.1)
