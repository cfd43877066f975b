use Rattle.std.proofs.Common.{◌≡◌, ◌<◌, ℕ, Option, Some, None, Ok, sym, ◌∙◌, arith}
use Rattle.std.specs.Prelude.{IfNone}
use Rattle.std.proofs.lemmas.Result.{Ok-from_Ok_iff}
use Rattle.script_text.proofs.CutLemmas.{other_decimal}
use Rattle.script_text.proofs.arguments.flags_from.Goals as goal

pub returns-in_err-bits-clause-none : goal.returns-in_err-bits-clause-none
returns-in_err-bits-clause-none c =
    rw c.from_residual-in_err-bits.ensures (λ n h e.
    let same : c.in_ok-read_decimal.field-0 ≡ n = other_decimal c.in_ok-read_decimal.field-0 n _ (omega arith) (omega (arith, h)) c.in_ok-read_decimal.ensures.some e in
    let fits : c.in_ok-read_decimal.field-0 < 256 = omega (arith, h, same) in
    let is : c.try_from.result ≡ Ok c.in_ok-read_decimal.field-0 = Ok-from_Ok_iff _ _ _ c.try_from.ensures fits in
    let none = sym c.in_err-bits.was ∙ rw is at c.ok.ensures.value in
    absurd (cc none))

if_above : (o : Option ℕ) (bits : ℕ) (P : Type 0) → IfNone o (31 < bits) → (31 < bits → P) → IfNone o P
if_above None bits P none f = f none
if_above (Some x) bits P none f = tt

pub returns-clause-none : goal.returns-clause-none
returns-clause-none c = if_above c.flags_of.result c.in_ok-bits.bits _ c.flags_of.ensures.none (λ above n h e.
    let same : c.in_ok-read_decimal.field-0 ≡ n = other_decimal c.in_ok-read_decimal.field-0 n _ (omega arith) (omega (arith, h)) c.in_ok-read_decimal.ensures.some e in
    let fits : c.in_ok-read_decimal.field-0 < 256 = omega (arith, h, same) in
    let is : c.try_from.result ≡ Ok c.in_ok-read_decimal.field-0 = Ok-from_Ok_iff _ _ _ c.try_from.ensures fits in
    let some = sym c.in_ok-bits.was ∙ rw is at c.ok.ensures.value in
    let bits_is : c.in_ok-bits.bits ≡ n = cc (some, same) in
    omega (arith, above, bits_is, h))
