use Rattle.std.proofs.Common.{rules, ◌≡◌, ◌+◌, ◌-◌, ◌*◌, refl, length, ap, arith}
use Rattle.b64_lines.specs.Pairs.{pair_of}
use Rattle.b64_lines.proofs.PairLemmas.{table_next}
use Rattle.b64_lines.proofs.pairs.symbol_pairs.Goals as goal

pub loop-bits-preserved : goal.loop-bits-preserved
loop-bits-preserved c =
    let bits = c.loop-bits.bits in
    let full : length c.loop-bits.pairs ≡ 8192 = search rules in
    let test = c.loop-bits-test.true in
    let n : 2 * bits + 2 - 2 * bits ≡ 2 = omega arith in
    let pair : c.copy_from_slice.new.self ≡ pair_of bits = c.copy_from_slice.ensures.after in
    let two = ap (λ xs. length xs) pair in
    record { done = table_next c.loop-bits.pairs _ bits (2 * bits + 2 - 2 * bits) c.copy_from_slice.new.self (omega (arith, full, test)) n two pair refl c.loop-bits.invariant.done }
