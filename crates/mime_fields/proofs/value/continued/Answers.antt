use Rattle.std.proofs.Common.{◌∙◌, sym}
use Rattle.mime_fields.proofs.ContinuedLemmas.{continues}
use Rattle.mime_fields.proofs.value.continued.Goals as goal

pub returns-clause-some : goal.returns-clause-some
returns-clause-some c = continues c.args.text.now c.in_ok-line.line c.in_ok-line.ensures.line c.if-line-eq0.false (sym c.is_blank.ensures ∙ c.if-not-is_blank.false)
