use Rattle.std.proofs.Common.{sym, ◌∙◌}
use Rattle.script_text.proofs.RequestLemmas.{name_is, short_name}
use Rattle.script_text.proofs.arguments.name_alone.Goals as goal

pub returns-clause-bad : goal.returns-clause-bad
returns-clause-bad c = λ is name n e.
    let found = c.in-Some.ensures.some in
    let same = name_is c.in-Some.octets.now name found.0 (short_name name n) (sym found.1 ∙ e) in
    c.name_from.ensures.bad is (rw same n)
