use Rattle.std.proofs.Common.{◌≡◌, ◌<◌, Ok, sym, ◌∙◌, refl, arith}
use Rattle.std.proofs.lemmas.Result.{Ok-from_Ok_iff}
use Rattle.script_text.proofs.CutLemmas.{cut_number, other_decimal}
use Rattle.script_text.proofs.request.lane_and_words.Goals as goal
use Rattle.script_text.proofs.request.lane_and_words.Goals.{then-lane-eq0-via-then-lane-eq0, then-lane-eq0-via-else-lane-eq0+then-lane-lanes}

pub returns-in_err-read_decimal-clause-none : goal.returns-in_err-read_decimal-clause-none
returns-in_err-read_decimal-clause-none c =
    rw c.from_residual-in_err-read_decimal.ensures (λ lane words low high e.
    let r = cut_number 32 lane c.in_ok-word.word.now c.in_ok-word.words.now words refl (omega (arith, high)) c.in_ok-word.ensures.some.1 (sym c.in_ok-word.ensures.some.0 ∙ e) in
    c.in_err-read_decimal.ensures.none lane (omega (arith, high)) r.0)

pub returns-in_err-lane-clause-none : goal.returns-in_err-lane-clause-none
returns-in_err-lane-clause-none c =
    rw c.from_residual-in_err-lane.ensures (λ lane words low high e.
    let r = cut_number 32 lane c.in_ok-word.word.now c.in_ok-word.words.now words refl (omega (arith, high)) c.in_ok-word.ensures.some.1 (sym c.in_ok-word.ensures.some.0 ∙ e) in
    let same : c.in_ok-read_decimal.field-0 ≡ lane = other_decimal c.in_ok-read_decimal.field-0 lane c.in_ok-word.word.now (omega arith) (omega (arith, high)) c.in_ok-read_decimal.ensures.some r.0 in
    let fits : c.in_ok-read_decimal.field-0 < 4294967296 = omega (arith, high, same) in
    let is : c.try_from.result ≡ Ok c.in_ok-read_decimal.field-0 = Ok-from_Ok_iff _ _ _ c.try_from.ensures fits in
    let none = sym c.in_err-lane.was ∙ rw is at c.ok.ensures.value in
    absurd (cc none))

pub returns-then-lane-eq0-clause-none : goal.returns-then-lane-eq0-clause-none
returns-then-lane-eq0-clause-none c = λ lane words low high e.
    let r = cut_number 32 lane c.in_ok-word.word.now c.in_ok-word.words.now words refl (omega (arith, high)) c.in_ok-word.ensures.some.1 (sym c.in_ok-word.ensures.some.0 ∙ e) in
    let same : c.in_ok-read_decimal.field-0 ≡ lane = other_decimal c.in_ok-read_decimal.field-0 lane c.in_ok-word.word.now (omega arith) (omega (arith, high)) c.in_ok-read_decimal.ensures.some r.0 in
    let fits : c.in_ok-read_decimal.field-0 < 4294967296 = omega (arith, high, same) in
    let is : c.try_from.result ≡ Ok c.in_ok-read_decimal.field-0 = Ok-from_Ok_iff _ _ _ c.try_from.ensures fits in
    let some = sym c.in_ok-lane.was ∙ rw is at c.ok.ensures.value in
    let lane_is : c.in_ok-lane.lane ≡ lane = cc (some, same) in
    elim c.then-lane-eq0.branch [
      | then-lane-eq0-via-then-lane-eq0 w ↦ omega (arith, lane_is, low)
      | then-lane-eq0-via-else-lane-eq0+then-lane-lanes w ↦ omega (arith, lane_is, high)
    ]
