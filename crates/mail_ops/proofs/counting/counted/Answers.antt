use Rattle.mail_ops.proofs.Common.{arith}
use Rattle.mail_ops.proofs.CountingLemmas.{sum_record}
use Rattle.mail_ops.proofs.counting.counted.Goals as goal

pub loop-place-preserved : goal.loop-place-preserved
loop-place-preserved c =
    let one = sum_record c.args.map.now.meaning.records c.loop-place.place (omega (arith, c.loop-place-test.true, c.rows-place-end.ensures)) in
    let here = c.count_at.ensures.count in
    let same = c.from-count.ensures in
    (omega (arith, c.loop-place.invariant.0, one, here, same), omega (arith, c.loop-place.invariant.1, same, c.count_at.ensures.few))
