use Rattle.std.proofs.Common.{◌≡◌, ◌<◌, Bool, true, false, ℕ, Ok, sym, ◌∙◌, arith, refl}
use Rattle.std.specs.Prelude.{IfNone, IsTrue}
use Rattle.std.specs.Bool.{then_some}
use Rattle.std.proofs.lemmas.Fmt.{decimal_injective}
use Rattle.std.proofs.lemmas.Result.{Ok-from_Ok_iff}
use Rattle.file_paths.proofs.read.number_of.Goals as goal

pub returns-in_err-number-clause-none : goal.returns-in_err-number-clause-none
returns-in_err-number-clause-none c =
    rw c.from_residual-in_err-number.ensures (λ n h e.
    let same : c.in_ok-read_decimal.field-0 ≡ n = decimal_injective c.in_ok-read_decimal.field-0 n (omega arith) (omega (arith, h.high)) (sym c.in_ok-read_decimal.ensures.some ∙ e) in
    let fits : c.in_ok-read_decimal.field-0 < 4294967296 = omega (arith, h.high, same) in
    let is : c.try_from.result ≡ Ok c.in_ok-read_decimal.field-0 = Ok-from_Ok_iff _ _ _ c.try_from.ensures fits in
    let none = sym c.in_err-number.was ∙ rw is at c.ok.ensures.value in
    absurd (cc none))

none_if_not : (b : Bool) (x : ℕ) (P : Type 0) → (b ≡ false → P) → IfNone (then_some b x) P
none_if_not true x P f = tt
none_if_not false x P f = f refl

pub returns-clause-none : goal.returns-clause-none
returns-clause-none c = rw c.then_some.ensures (none_if_not c.is_number.result c.in_ok-number.number _ (λ no n h e.
    let same : c.in_ok-read_decimal.field-0 ≡ n = decimal_injective c.in_ok-read_decimal.field-0 n (omega arith) (omega (arith, h.high)) (sym c.in_ok-read_decimal.ensures.some ∙ e) in
    let fits : c.in_ok-read_decimal.field-0 < 4294967296 = omega (arith, h.high, same) in
    let is : c.try_from.result ≡ Ok c.in_ok-read_decimal.field-0 = Ok-from_Ok_iff _ _ _ c.try_from.ensures fits in
    let some = sym c.in_ok-number.was ∙ rw is at c.ok.ensures.value in
    let number_is : c.in_ok-number.number ≡ n = cc (some, same) in
    let yes : IsTrue c.is_number.result = c.is_number.ensures.1 (rw number_is h) in
    absurd (cc (yes, no))))
