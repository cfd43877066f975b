use Rattle.std.proofs.Common.{arith}
use Rattle.usage_text.proofs.RuleLemmas.{decimal_fits}
use Rattle.usage_text.proofs.rule.is_decimal.Goals as goal

pub returns-in-Some : goal.returns-in-Some
returns-in-Some c = decimal_fits c.is_between.result c.in-Some.number c.args.least c.args.most c.args.word.now (omega arith) (omega arith) c.in-Some.ensures.some c.is_between.ensures
