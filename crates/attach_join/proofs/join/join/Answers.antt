use Rattle.std.proofs.Common.{refl}
use Rattle.attach_join.proofs.JoinLemmas.{here, next}
use Rattle.attach_join.proofs.join.join.Goals as goal

pub overflow_sub-start : goal.overflow_sub-start
overflow_sub-start c = (here c.args.body.now _ c.args.refs.now c.args.instances.now c.loop-i.i c.loop-i.before _ _ _ c.loop-i.invariant c.loop-i-test.true refl).0

pub split_at-requires : goal.split_at-requires
split_at-requires c = (here c.args.body.now _ c.args.refs.now c.args.instances.now c.loop-i.i c.loop-i.before _ _ _ c.loop-i.invariant c.loop-i-test.true refl).1

pub loop-i-preserved : goal.loop-i-preserved
loop-i-preserved c = next c.args.body.now _ _ _ c.args.refs.now c.args.instances.now c.loop-i.i c.loop-i.before _ _ _ _ _ _ _ _ c.loop-i.invariant c.loop-i-test.true c.requires.one_each refl c.index-instances-i.is
    refl c.split_at.ensures.front_len c.split_at.ensures.back_len c.split_at.ensures.by_index.0 c.in_ok-extend_from_slice.ensures.items c.in_ok-push_text.ensures c.as_slice.ensures
