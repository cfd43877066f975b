use Rattle.std.proofs.Common.{sym, ◌∙◌, ◌++◌, ◌∷◌, List, ℕ, length, ap, arith, rules}
use Rattle.std.specs.Prelude.{IsErrOf, IsTrue}
use Rattle.std.proofs.lemmas.Grind.{common_steps}
use Rattle.mdbox_base.specs.Numbers.{decimal_text}
use Rattle.mdbox_base.specs.Words.{IsName}
use Rattle.script_text.specs.Script.{name_word, spaced}
use Rattle.script_text.specs.Reading.{AreCountedWords}
use Rattle.script_text.specs.declared.error.Flaw.TheVariants as flaw
use Rattle.script_text.proofs.RequestLemmas.{name_uid_then, short_name}
use Rattle.script_text.proofs.arguments.name_uid_words.Goals as goal

pub returns-in_default-clause-bad : goal.returns-in_default-clause-bad
returns-in_default-clause-bad c = λ is name uid keywords n u k e. c.in_default.ensures.none name uid (spaced (decimal_text (length keywords) ∷ keywords)) (short_name name n) u e

pub returns-then-not-are_counted-clause-bad : goal.returns-then-not-are_counted-clause-bad
returns-then-not-are_counted-clause-bad c = λ is name uid keywords n u k e.
    let found = c.in-Some.ensures.some in
    let r = name_uid_then c.in-Some.octets.now name c.in-Some.uid.0 uid c.in-Some.rest.now (spaced (decimal_text (length keywords) ∷ keywords)) found.0 (short_name name n) found.1 u (sym found.2 ∙ e) in
    let yes : IsTrue c.are_counted.result = c.are_counted.ensures.1 (keywords, k, r.1) in
    let no = c.if-not-are_counted.true in
    grind (arith, common_steps, yes, no)

pub returns-in_err-name-clause-bad : goal.returns-in_err-name-clause-bad
returns-in_err-name-clause-bad c =
    let none : IsErrOf c.from_residual.result flaw.Bad → IsName c.in-Some.octets.now → ⊥ = first_of (search rules, grind (arith, common_steps)) in λ is name uid keywords n u k e.
    let found = c.in-Some.ensures.some in
    let r = name_uid_then c.in-Some.octets.now name c.in-Some.uid.0 uid c.in-Some.rest.now (spaced (decimal_text (length keywords) ∷ keywords)) found.0 (short_name name n) found.1 u (sym found.2 ∙ e) in
    none is (rw r.0 n)

pub returns-in_err-name-clause-memory : goal.returns-in_err-name-clause-memory
returns-in_err-name-clause-memory c =
    let named : IsErrOf c.from_residual.result flaw.NoMemory → IsName c.in-Some.octets.now = first_of (search rules, grind (arith, common_steps)) in
    let yes : IsTrue c.are_counted.result = first_of (search rules, grind (arith, common_steps)) in λ is.
    let found = c.in-Some.ensures.some in
    let counted : AreCountedWords c.in-Some.rest.now = c.are_counted.ensures.0 yes in
    (c.in-Some.octets.now, c.in-Some.uid.0, counted.0, named is, found.1, counted.1, found.2 ∙ ap (λ (t : List ℕ). name_word c.in-Some.octets.now ++ 32 ∷ (decimal_text c.in-Some.uid.0 ++ 32 ∷ t)) counted.2)

pub returns-in_err-keywords-clause-memory : goal.returns-in_err-keywords-clause-memory
returns-in_err-keywords-clause-memory c =
    let yes : IsTrue c.are_counted.result = first_of (search rules, grind (arith, common_steps)) in λ is.
    let found = c.in-Some.ensures.some in
    let counted : AreCountedWords c.in-Some.rest.now = c.are_counted.ensures.0 yes in
    (c.in-Some.octets.now, c.in-Some.uid.0, counted.0, c.in_ok-name.ensures.found.1, found.1, counted.1, found.2 ∙ ap (λ (t : List ℕ). name_word c.in-Some.octets.now ++ 32 ∷ (decimal_text c.in-Some.uid.0 ++ 32 ∷ t)) counted.2)
