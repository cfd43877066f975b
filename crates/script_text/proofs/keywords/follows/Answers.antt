use Rattle.std.proofs.Common.{◌≡◌, refl, sym, ap, ◌∙◌}
use Rattle.std.specs.Cmp.Lexicographic.{lists_agrees, slice_cmp}
use Rattle.std.specs.Ordering.{nat_cmp, is_lt, is_some_and}
use Rattle.script_text.proofs.RowLemmas.{is_less}
use Rattle.script_text.proofs.keywords.follows.Goals as goal

pub returns-then-is_keyword : goal.returns-then-is_keyword
returns-then-is_keyword c =
    let is : c.lt.result ≡ is_lt (slice_cmp nat_cmp c.args.before.now c.args.word.now) = c.lt.ensures ∙ ap (is_some_and is_lt) (lists_agrees {R = nat_cmp} (λ x y. refl) c.args.before.now c.args.word.now) in (
      λ t. (c.is_keyword.ensures.0 c.if-is_keyword.true, is_less _ (sym is ∙ t)),
      λ f. is ∙ ap is_lt f.1,
    )
