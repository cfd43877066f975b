use Rattle.mime_fields.proofs.LineLemmas.{rest_is, found_line, last_line}
use Rattle.mime_fields.proofs.lines.next_line.Goals as goal

pub returns-in-Some-clause-line : goal.returns-in-Some-clause-line
returns-in-Some-clause-line c = found_line c.args.text.now _ c.args.from c.in-Some.at c.text_end-end.result (rest_is c.args.text.now c.args.from) c.if-from-text.false c.in-Some.ensures c.text_end-end.ensures.text c.text_end-end.ensures.within

pub returns-in-None-clause-line : goal.returns-in-None-clause-line
returns-in-None-clause-line c = last_line c.args.text.now _ c.args.from (rest_is c.args.text.now c.args.from) c.if-from-text.false c.in-None.ensures
