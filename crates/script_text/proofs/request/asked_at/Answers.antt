use Rattle.script_text.proofs.AskedLemmas.{nothing_alone, nothing_unknown}
use Rattle.script_text.proofs.request.asked_at.Goals as goal

pub returns-in-None-clause-bad : goal.returns-in-None-clause-bad
returns-in-None-clause-bad c = λ is. nothing_alone c.args.words.now c.args.rest.now c.in_default.ensures.none c.in-None.ensures.none

pub returns-in-None-verb_of-clause-bad : goal.returns-in-None-verb_of-clause-bad
returns-in-None-verb_of-clause-bad c = λ is.
    let cut = c.in-Some.ensures.some in
    nothing_unknown c.args.words.now c.in-Some.word.now c.in-Some.arguments.now c.args.rest.now cut.0 cut.1 c.in-None-verb_of.ensures.none
