use Rattle.std.proofs.Common.{arith}
use Rattle.rebuild_judge.proofs.JoiningLemmas.{too_long}
use Rattle.rebuild_judge.proofs.join.is_as_long.Goals as goal

pub returns-then-size-from : goal.returns-then-size-from
returns-then-size-from c = λ octets e. too_long c.args.reference.form octets c.args.size c.args.reference.count c.requires.form e (let a = c.if-size-from.true in let b = c.from.ensures in omega (arith, a, b))
