use Rattle.script_text.proofs.CutLemmas.{none_before}
use Rattle.script_text.proofs.SpacedLemmas.{whole_clear}
use Rattle.script_text.proofs.keywords.first_word.Goals as goal

pub returns-in-Some-clause-word : goal.returns-in-Some-clause-word
returns-in-Some-clause-word c = rw c.split_at.ensures.front (none_before 32 c.args.text.now c.in-Some.place c.in-Some.ensures.0.before)

pub returns-in-None-clause-word : goal.returns-in-None-clause-word
returns-in-None-clause-word c = whole_clear c.args.text.now c.in-None.ensures
