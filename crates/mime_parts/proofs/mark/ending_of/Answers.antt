use Rattle.mime_parts.proofs.ReaderLemmas.{ends_at}
use Rattle.mime_parts.proofs.MarkLemmas.{no_dashes}
use Rattle.mime_parts.specs.Marks.{MarkSays}
use Rattle.mime_parts.specs.declared.mark.Mark.TheVariants as marks
use Rattle.mime_parts.proofs.mark.ending_of.Goals as goal

pub returns-in-Delimiter : goal.returns-in-Delimiter
returns-in-Delimiter c = ends_at c.args.stack.now c.args.text.now c.loop-i.i c.index-stack-i.result (MarkSays marks.Delimiter) c.loop-i-test.true c.index-stack-i.is c.loop-i.invariant.none c.in-Delimiter.ensures

pub returns-in-Closing : goal.returns-in-Closing
returns-in-Closing c = ends_at c.args.stack.now c.args.text.now c.loop-i.i c.index-stack-i.result (MarkSays marks.Closing) c.loop-i-test.true c.index-stack-i.is c.loop-i.invariant.none c.in-Closing.ensures

pub returns-in_default : goal.returns-in_default
returns-in_default c = no_dashes c.args.stack.now c.args.text.now c.in_default.ensures.none
