use Rattle.std.proofs.Common.{arith, sym}
use Rattle.std.proofs.lemmas.List.{length-take-le, take_all}
use Rattle.usage_text.proofs.line.told_part.Goals as goal

pub slice_bounds-result-end : goal.slice_bounds-result-end
slice_bounds-result-end c = sym (length-take-le 60 c.args.word.now (let more = c.if-word-gt-MOST_TOLD.true in omega (arith, more)))

pub returns-else-word-gt-MOST_TOLD-clause-told : goal.returns-else-word-gt-MOST_TOLD-clause-told
returns-else-word-gt-MOST_TOLD-clause-told c = sym (take_all 60 c.args.word.now (let few = c.if-word-gt-MOST_TOLD.false in omega (arith, few)))
