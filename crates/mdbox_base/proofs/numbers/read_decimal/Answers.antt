use Rattle.std.proofs.Common.{◌≡◌, ◌≢◌, ◌≤◌, ℕ, get_or, length, subst, refl, false, true, List}
use Rattle.std.specs.Str.Parse.{ParsesUnsigned}
use Rattle.mdbox_base.proofs.DecimalLemmas.{no_sign, no_leading_zero, is_text, read_is_decimal, unread_is_none}
use Rattle.mdbox_base.proofs.numbers.read_decimal.Goals as goal
use Rattle.mdbox_base.proofs.numbers.read_decimal.Goals.{then-has_sign-via-then-has_sign, then-has_sign-via-else-has_sign+then-has_leading_zero}

pub returns-then-has_sign-clause-none : goal.returns-then-has_sign-clause-none
returns-then-has_sign-clause-none c n h e =
    elim c.then-has_sign.branch [
      | then-has_sign-via-then-has_sign w ↦ no_sign c.args.text.now n h e (w.if-has_sign.ensures.0 refl)
      | then-has_sign-via-else-has_sign+then-has_leading_zero w ↦
          let zero = w.if-has_leading_zero.ensures.0 refl in no_leading_zero c.args.text.now n h e zero.0 zero.1
    ]

pub returns-in-Ok-clause-some : goal.returns-in-Ok-clause-some
returns-in-Ok-clause-some c =
    let parsed = subst (λ (l : List ℕ). ParsesUnsigned 64 10 l c.parse.result) c.in-Ok.ensures.cases.0 c.parse.ensures.value.0 in
    let sign : get_or c.args.text.now 0 0 ≢ 43 = λ e. let t : false ≡ true = c.if-has_sign.ensures.1 e in cc in
    let zero = λ (e : get_or c.args.text.now 0 0 ≡ 48) (k : 2 ≤ length c.args.text.now). (let t : false ≡ true = c.if-has_leading_zero.ensures.1 (e, k) in let never : ⊥ = cc in never) in
    rw c.ok.ensures.value (read_is_decimal c.args.text.now sign zero c.parse.result parsed)

pub returns-in-Ok-clause-none : goal.returns-in-Ok-clause-none
returns-in-Ok-clause-none c =
    let parsed = subst (λ (l : List ℕ). ParsesUnsigned 64 10 l c.parse.result) c.in-Ok.ensures.cases.0 c.parse.ensures.value.0 in
    rw c.ok.ensures.value (unread_is_none c.args.text.now c.parse.result parsed)

pub returns-in-Err-clause-none : goal.returns-in-Err-clause-none
returns-in-Err-clause-none c n h e = c.in-Err.ensures.cases.0 (is_text c.args.text.now n h e)
