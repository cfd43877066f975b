use Rattle.dump_text.proofs.DumpLemmas.{first_row, row_end, row_has_end}
use Rattle.dump_text.proofs.dump_print.line_size.Goals as goal

pub returns-in-Some-clause-line : goal.returns-in-Some-clause-line
returns-in-Some-clause-line c =
    λ line lines p. let found = c.in-Some.ensures in first_row line lines c.args.text.now _ p (row_end line lines c.args.text.now c.in-Some.end p found.1 found.0.before)

pub returns-in-None-clause-line : goal.returns-in-None-clause-line
returns-in-None-clause-line c = λ line lines p. absurd (row_has_end line lines c.args.text.now p c.in-None.ensures)
