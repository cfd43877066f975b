use Rattle.std.proofs.Common.{sym, ◌∙◌, ◌++◌, ◌∷◌, List, ℕ, ap}
use Rattle.script_text.specs.Script.{name_word}
use Rattle.script_text.proofs.RequestLemmas.{name_is, name_then, short_name}
use Rattle.script_text.proofs.arguments.name_and_name.Goals as goal

pub returns-in_default-clause-bad : goal.returns-in_default-clause-bad
returns-in_default-clause-bad c = λ is name target n t e. c.in_default.ensures.none name (name_word target) (short_name name n) e

pub returns-in_default-octets_alone-clause-bad : goal.returns-in_default-octets_alone-clause-bad
returns-in_default-octets_alone-clause-bad c = λ is name target n t e.
    let found = c.in-Some.ensures.some in
    let r = name_then c.in-Some.first.now name c.in-Some.word.now (name_word target) found.0 (short_name name n) (sym found.1 ∙ e) in
    c.in_default-octets_alone.ensures.none target (short_name target t) r.1

pub returns-clause-bad : goal.returns-clause-bad
returns-clause-bad c = λ is name target n t e.
    let found = c.in-Some.ensures.some in
    let other = c.in-Some-octets_alone.ensures.some in
    let r = name_then c.in-Some.first.now name c.in-Some.word.now (name_word target) found.0 (short_name name n) (sym found.1 ∙ e) in
    let same = name_is c.in-Some-octets_alone.second.now target other.0 (short_name target t) (sym other.1 ∙ r.1) in
    c.names_from.ensures.bad is (rw r.0 n) (rw same t)

pub returns-clause-memory : goal.returns-clause-memory
returns-clause-memory c = λ is.
    let found = c.in-Some.ensures.some in
    let other = c.in-Some-octets_alone.ensures.some in
    let named = c.names_from.ensures.memory is in
    (c.in-Some.first.now, c.in-Some-octets_alone.second.now, named.0, named.1, found.1 ∙ ap (λ (t : List ℕ). name_word c.in-Some.first.now ++ 32 ∷ t) other.1)
