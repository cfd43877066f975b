use Rattle.map_index.proofs.Common.{refl, arith}
use Rattle.map_index.proofs.FollowLemmas.{none_yet, one_follows, all_follow}
use Rattle.map_index.proofs.index.MapIndex.follow.Goals as goal

pub loop-place-init : goal.loop-place-init
loop-place-init c = none_yet c.args.self.now.meaning c.args.moved.now

pub loop-place-preserved : goal.loop-place-preserved
loop-place-preserved c = one_follows c.args.self.now.meaning c.args.moved.now c.loop-place.place-index _ _ c.loop-place.end _ c.loop-place-test.true refl c.if-place-end.false c.loop-place.invariant (let s = c.size_at.ensures in omega (arith, s))

pub returns : goal.returns
returns c = λ h. all_follow c.args.self.now.meaning c.args.moved.now c.loop-place.place-index c.loop-place-test.false c.loop-place.invariant.1
