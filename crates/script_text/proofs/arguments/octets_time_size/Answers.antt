use Rattle.std.proofs.Common.{sym, ◌∙◌, ◌++◌, ◌∷◌}
use Rattle.mdbox_base.specs.Numbers.{decimal_text}
use Rattle.script_text.proofs.RequestLemmas.{name_then}
use Rattle.script_text.proofs.arguments.octets_time_size.Goals as goal

pub returns-in_default-two_numbers-clause-none : goal.returns-in_default-two_numbers-clause-none
returns-in_default-two_numbers-clause-none c = λ name time size n tl sl e.
    let found = c.in-Some.ensures.some in
    let r = name_then c.in-Some.octets.now name c.in-Some.rest.now (decimal_text time ++ 32 ∷ decimal_text size) found.0 n (sym found.1 ∙ e) in
    c.in_default-two_numbers.ensures.none time size tl sl r.1
