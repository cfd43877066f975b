use Rattle.std.proofs.Common.{refl}
use Rattle.std.proofs.lemmas.Option.{slice_get_read}
use Rattle.lanes.proofs.RoundLemmas.{idle_more}
use Rattle.lanes.proofs.world.first_busy.Goals as goal

pub loop-place-preserved : goal.loop-place-preserved
loop-place-preserved c =
    idle_more c.args.after c.loop-place.place c.args.lanes.now c.index-lanes-place.result c.loop-place.invariant (slice_get_read _ _ _ _ refl c.loop-place-test.true c.index-lanes-place.is) (c.is_idle.ensures.idle c.if-not-is_idle.false)
