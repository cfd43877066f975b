use Rattle.mime_fields.proofs.FindingLemmas.{found_here, found_later}
use Rattle.mime_fields.proofs.fields.field.Goals as goal

pub returns-in-Some-behind_name-clause-some : goal.returns-in-Some-behind_name-clause-some
returns-in-Some-behind_name-clause-some c = found_here c.args.name.now c.args.block.now c.loop-line.at c.in-Some.line c.in-Some-behind_name.value.now c.of.result c.in-Some.ensures.line c.loop-line.invariant c.in-Some-behind_name.ensures.some.0 c.in-Some-behind_name.ensures.some.1 c.of.ensures

pub loop-line-preserved : goal.loop-line-preserved
loop-line-preserved c = found_later c.args.name.now c.args.block.now c.loop-line.at c.in-Some.line c.in-Some.ensures.line c.loop-line.invariant c.in_default-behind_name.ensures.none
