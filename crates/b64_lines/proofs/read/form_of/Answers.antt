use Rattle.b64_lines.proofs.FormLemmas.{only_none, only_crlf, only_lf}
use Rattle.b64_lines.proofs.read.form_of.Goals as goal

pub returns-in-None-clause-only : goal.returns-in-None-clause-only
returns-in-None-clause-only c form octets h = only_none c.args.text.now form octets _ c.in-None.ensures h c.form_with.ensures

pub returns-then-has_cr-clause-only : goal.returns-then-has_cr-clause-only
returns-then-has_cr-clause-only c form octets h = only_crlf c.args.text.now form octets c.in-Some.at _ c.in-Some.ensures (c.has_cr.ensures.yes c.if-has_cr.true).1 h c.form_with-then-has_cr.ensures

pub returns-else-has_cr-clause-only : goal.returns-else-has_cr-clause-only
returns-else-has_cr-clause-only c form octets h = only_lf c.args.text.now form octets c.in-Some.at _ c.in-Some.ensures (c.has_cr.ensures.no c.if-has_cr.false) h c.form_with-else-has_cr.ensures
