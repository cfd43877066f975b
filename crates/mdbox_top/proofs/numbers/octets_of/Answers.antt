use Rattle.std.proofs.Common.{arith}
use Rattle.store_core.specs.Value.{indexes_of}
use Rattle.mdbox_top.proofs.NumbersLemmas.{sum_there}
use Rattle.mdbox_top.proofs.numbers.octets_of.Goals as goal

pub loop-place-preserved : goal.loop-place-preserved
loop-place-preserved g c =
    let one = sum_there (indexes_of c.args.store.now.boxes) c.loop-place.place c.octets_at-octets.result c.octets_at-octets.ensures.octets in
    (omega (arith, c.loop-place.invariant.0, one), omega (arith, c.loop-place.invariant.1, c.octets_at-octets.ensures.few))
