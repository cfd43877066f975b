use Rattle.std.proofs.Common.{sym, ◌∙◌, ◌++◌, ◌∷◌}
use Rattle.mdbox_base.specs.Numbers.{decimal_text}
use Rattle.script_text.proofs.RequestLemmas.{name_then}
use Rattle.script_text.proofs.arguments.octets_uid_rest.Goals as goal

pub returns-in_default-uid_and_rest-clause-none : goal.returns-in_default-uid_and_rest-clause-none
returns-in_default-uid_and_rest-clause-none c = λ name uid rest n u e.
    let found = c.in-Some.ensures.some in
    let r = name_then c.in-Some.octets.now name c.in-Some.behind.now (decimal_text uid ++ 32 ∷ rest) found.0 n (sym found.1 ∙ e) in
    c.in_default-uid_and_rest.ensures.none uid rest u r.1
