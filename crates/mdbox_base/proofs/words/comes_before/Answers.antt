use Rattle.std.proofs.Common.{◌≡◌, ◌∙◌, ℕ, Some, refl, ap, ap₂, List}
use Rattle.std.specs.Cmp.Lexicographic.{lists_agrees, slice_partial_cmp}
use Rattle.std.specs.Ordering.{nat_cmp, is_lt, is_some_and}
use Rattle.mdbox_base.proofs.words.comes_before.Goals as goal

pub returns : goal.returns
returns c = c.lt.ensures ∙ (ap₂ (λ (a b : List ℕ). is_some_and is_lt (slice_partial_cmp (λ x y. Some (nat_cmp x y)) a b)) c.as_slice.ensures c.as_slice-2.ensures
    ∙ ap (is_some_and is_lt) (lists_agrees {R = nat_cmp} (λ x y. refl) c.args.a.now c.args.b.now))
