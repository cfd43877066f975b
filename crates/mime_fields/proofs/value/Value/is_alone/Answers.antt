use Rattle.std.proofs.Common.{◌∙◌}
use Rattle.std.proofs.lemmas.List.{nil_from_length}
use Rattle.mime_fields.proofs.AloneLemmas.{at_end}
use Rattle.mime_fields.proofs.value.Value.is_alone.Goals as goal

pub returns : goal.returns
returns c = at_end c.loop-first.self c.loop-first.left.now c.skip_blanks.new.self c.peek.result c.is_none.result (nil_from_length c.loop-first.left.now c.in_default.ensures.cases) c.skip_blanks.ensures.same c.peek.ensures.some c.peek.ensures.none c.is_none.ensures ∙ c.loop-first.invariant
