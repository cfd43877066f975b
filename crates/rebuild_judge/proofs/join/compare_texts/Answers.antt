use Rattle.std.proofs.Common.{refl}
use Rattle.attach_join.proofs.CheckLemmas.{same_start}
use Rattle.rebuild_judge.proofs.JoiningLemmas.{texts_differ, texts_next, texts_same}
use Rattle.rebuild_judge.proofs.join.compare_texts.Goals as goal

pub loop-i-init : goal.loop-i-init
loop-i-init c = λ octets e. same_start c.args.refs.now octets

pub returns-then-not-is_as_long : goal.returns-then-not-is_as_long
returns-then-not-is_as_long c = λ octets e. texts_differ c.args.refs.now octets c.args.sizes.now c.loop-i.i _ _ c.is_as_long.result (c.loop-i.invariant octets e) e c.requires.one_each c.loop-i-test.true refl c.is_as_long.ensures c.if-not-is_as_long.true _ refl

pub loop-i-preserved : goal.loop-i-preserved
loop-i-preserved c = λ octets e. texts_next c.args.refs.now octets c.args.sizes.now c.loop-i.i _ _ c.is_as_long.result (c.loop-i.invariant octets e) e c.requires.one_each c.loop-i-test.true refl c.is_as_long.ensures c.if-not-is_as_long.false

pub returns : goal.returns
returns c = λ octets e. texts_same c.args.refs.now octets c.loop-i.i _ (c.loop-i.invariant octets e) c.loop-i-test.false
