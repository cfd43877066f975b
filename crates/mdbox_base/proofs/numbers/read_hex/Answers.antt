use Rattle.std.proofs.Common.{arith, ◌<◌}
use Rattle.mdbox_base.proofs.DigitLemmas.{next_fits}
use Rattle.mdbox_base.proofs.numbers.read_hex.Goals as goal

pub overflow_mul-value : goal.overflow_mul-value
overflow_mul-value c = omega (arith, next_fits c.loop-digit.value c.loop-digit.digit-index c.loop-digit.invariant.small (omega arith))

pub overflow_add-value : goal.overflow_add-value
overflow_add-value c =
    let small : c.in_ok-hex_digit.field-0 < 16 = c.in_ok-hex_digit.ensures.small in
    omega (arith, next_fits c.loop-digit.value c.loop-digit.digit-index c.loop-digit.invariant.small (omega arith))
