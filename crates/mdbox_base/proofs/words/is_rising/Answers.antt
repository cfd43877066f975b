use Rattle.std.proofs.Common.{rules, ◌≡◌, ◌↔◌, ◌≤◌, ◌<◌, ◌+◌, ℕ, Bool, true, false, List, length, IsTrue, AllPairs, sym, ap}
use Rattle.std.specs.Cmp.Lexicographic.{slice_cmp}
use Rattle.std.specs.Ordering.{nat_cmp, is_lt}
use Rattle.std.proofs.lemmas.Fn.{always_returns_same}
use Rattle.std.specs.declared.cmp.Ordering.TheVariants.{Less}
use Rattle.mdbox_base.proofs.KeywordLemmas.{rises_as_answered}
use Rattle.mdbox_base.proofs.words.is_rising.Goals as goal

pub returns : goal.returns
returns c =
    let answered = c.is_sorted_by.ensures.cases (λ a b. is_lt (slice_cmp nat_cmp a b)) (always_returns_same _ _ _ (λ a r f k. (search rules, search rules))) in
    rises_as_answered c.args.texts.now c.is_sorted_by.result answered
