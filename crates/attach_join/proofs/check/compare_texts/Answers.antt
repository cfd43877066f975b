use Rattle.std.proofs.Common.{refl, inr}
use Rattle.attach_join.proofs.CheckLemmas.{same_next, same_differs, same_end}
use Rattle.attach_join.proofs.check.compare_texts.Goals as goal

pub returns-then-kept-found-clause-err : goal.returns-then-kept-found-clause-err
returns-then-kept-found-clause-err c = inr (same_differs c.args.refs.now c.args.instances.now c.loop-i.i _ _ _ c.from-kept.result c.size_of_text-found.result c.loop-i.invariant c.requires.one_each c.loop-i-test.true refl c.index-instances-i.is
    c.from-kept.ensures c.size_of_text-found.ensures c.if-kept-found.true)

pub loop-i-preserved : goal.loop-i-preserved
loop-i-preserved c = same_next c.args.refs.now c.args.instances.now c.loop-i.i _ _ _ c.from-kept.result c.size_of_text-found.result c.loop-i.invariant c.requires.one_each c.loop-i-test.true refl c.index-instances-i.is
    c.from-kept.ensures c.size_of_text-found.ensures c.if-kept-found.false

pub returns-clause-ok : goal.returns-clause-ok
returns-clause-ok c = same_end c.args.refs.now c.args.instances.now c.loop-i.i c.loop-i.invariant c.loop-i-test.false
