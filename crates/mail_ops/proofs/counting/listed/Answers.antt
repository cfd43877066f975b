use Rattle.mail_ops.proofs.Common.{arith, indexes_of}
use Rattle.mail_ops.proofs.CountingLemmas.{sum_listed}
use Rattle.mail_ops.proofs.counting.listed.Goals as goal

pub loop-place-preserved : goal.loop-place-preserved
loop-place-preserved g c =
    let one = sum_listed (indexes_of c.args.store.now.boxes) c.loop-place.place c.length_at.result c.length_at.ensures.length in
    let same = c.from-count.ensures in
    (omega (arith, c.loop-place.invariant.0, one, same), omega (arith, c.loop-place.invariant.1, same, c.length_at.ensures.few))
