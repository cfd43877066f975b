use Rattle.std.proofs.Common.{◌≡◌, ◌<◌, ℕ, Bool, true, false, Ok, sym, ◌∙◌, arith, refl}
use Rattle.std.specs.Prelude.{IfNone, IsTrue}
use Rattle.std.specs.Bool.{then_some}
use Rattle.std.proofs.lemmas.Result.{Ok-from_Ok_iff}
use Rattle.request_text.proofs.WordsLemmas.{other_decimal}
use Rattle.request_text.proofs.words.read_up_to.Goals as goal

pub returns-in_err-number-clause-none : goal.returns-in_err-number-clause-none
returns-in_err-number-clause-none c =
    rw c.from_residual-in_err-number.ensures (λ n l h e.
    let same : c.in_ok-read_decimal.field-0 ≡ n = other_decimal c.in_ok-read_decimal.field-0 n _ (omega arith) (omega (arith, h)) c.in_ok-read_decimal.ensures.some e in
    let fits : c.in_ok-read_decimal.field-0 < 4294967296 = omega (arith, h, same) in
    let is : c.try_from.result ≡ Ok c.in_ok-read_decimal.field-0 = Ok-from_Ok_iff _ _ _ c.try_from.ensures fits in
    let none = sym c.in_err-number.was ∙ rw is at c.ok.ensures.value in
    absurd (cc none))

none_if_not : (b : Bool) (x : ℕ) (P : Type 0) → (b ≡ false → P) → IfNone (then_some b x) P
none_if_not true x P f = tt
none_if_not false x P f = f refl

pub returns-clause-none : goal.returns-clause-none
returns-clause-none c = rw c.then_some.ensures (none_if_not c.is_up_to.result _ _ (λ no n l h e.
    let same : c.in_ok-read_decimal.field-0 ≡ n = other_decimal c.in_ok-read_decimal.field-0 n _ (omega arith) (omega (arith, h)) c.in_ok-read_decimal.ensures.some e in
    let fits : c.in_ok-read_decimal.field-0 < 4294967296 = omega (arith, h, same) in
    let is : c.try_from.result ≡ Ok c.in_ok-read_decimal.field-0 = Ok-from_Ok_iff _ _ _ c.try_from.ensures fits in
    let some = sym c.in_ok-number.was ∙ rw is at c.ok.ensures.value in
    let number_is : c.in_ok-number.number ≡ n = cc (some, same) in
    let yes : IsTrue c.is_up_to.result = c.is_up_to.ensures.1 (rw number_is (l, h)) in
    absurd (cc (yes, no))))
