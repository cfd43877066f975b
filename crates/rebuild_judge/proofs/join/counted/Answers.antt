use Rattle.std.proofs.Common.{refl}
use Rattle.attach_join.proofs.CheckLemmas.{good_next, good_bad, good_end}
use Rattle.rebuild_judge.proofs.join.counted.Goals as goal

pub returns-then-is_out-clause-err : goal.returns-then-is_out-clause-err
returns-then-is_out-clause-err c = (c.loop-i.i, good_bad c.args.stored c.args.refs.now c.loop-i.i c.loop-i.before c.loop-i.sum _ _ _ c.loop-i.invariant c.loop-i-test.true refl c.is_out.ensures c.if-is_out.true, refl)

pub loop-i-preserved : goal.loop-i-preserved
loop-i-preserved c = rw (c.from.ensures, c.from-in-loop-i.ensures, c.from-sum.ensures) (good_next c.args.stored c.args.refs.now c.loop-i.i c.loop-i.before c.loop-i.sum _ _ _ c.loop-i.invariant c.loop-i-test.true refl c.is_out.ensures c.if-is_out.false)

pub returns-clause-ok : goal.returns-clause-ok
returns-clause-ok c = good_end c.args.stored c.args.refs.now c.loop-i.i c.loop-i.before c.loop-i.sum c.loop-i.invariant c.loop-i-test.false
