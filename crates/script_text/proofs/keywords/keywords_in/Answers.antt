use Rattle.std.proofs.Common.{◌≡◌, ◌≢◌, ◌∷◌, ◌∙◌, [], List, ℕ, ap, arith, rules}
use Rattle.std.specs.Prelude.{IsTrue}
use Rattle.std.proofs.lemmas.Bool.Decides.{Decides-eqb}
use Rattle.std.proofs.lemmas.Grind.{common_steps}
use Rattle.std.proofs.lemmas.Slice.Eq.{strip_prefix_is}
use Rattle.script_text.proofs.RowLemmas.{row_broken, row_done, row_full, row_more}
use Rattle.script_text.proofs.keywords.keywords_in.Goals as goal

pub returns-then-many-eq-MOST_KEYWORDS-clause-none : goal.returns-then-many-eq-MOST_KEYWORDS-clause-none
returns-then-many-eq-MOST_KEYWORDS-clause-none c =
    let told = strip_prefix_is Decides-eqb c.loop-words.left.now (32 ∷ []) c.strip_prefix.result c.strip_prefix.ensures.cases in
    let left_is : c.loop-words.left.now ≡ 32 ∷ c.in-Some.words.now = rw c.in-Some.is at told in
    let cut = c.first_word.ensures in
    let front = left_is ∙ ap (λ (t : List ℕ). 32 ∷ t) cut.parts in
    let full : c.loop-words.many ≡ 32 = first_of (search rules, grind (arith, common_steps)) in
    row_full c.args.text.now c.loop-words.before.now c.loop-words.left.now c.first_word.result.0.now c.first_word.result.1.now c.loop-words.many c.loop-words.invariant full front cut.word cut.rest

pub returns-then-not-follows-clause-none : goal.returns-then-not-follows-clause-none
returns-then-not-follows-clause-none c =
    let told = strip_prefix_is Decides-eqb c.loop-words.left.now (32 ∷ []) c.strip_prefix.result c.strip_prefix.ensures.cases in
    let left_is : c.loop-words.left.now ≡ 32 ∷ c.in-Some.words.now = rw c.in-Some.is at told in
    let cut = c.first_word.ensures in
    let front = left_is ∙ ap (λ (t : List ℕ). 32 ∷ t) cut.parts in
    row_broken c.args.text.now c.loop-words.before.now c.loop-words.left.now c.first_word.result.0.now c.first_word.result.1.now c.loop-words.many c.loop-words.invariant (λ follows. let yes : IsTrue c.follows.result = c.follows.ensures.1 follows in let no = c.if-not-follows.true in grind (arith, common_steps, yes, no)) front cut.word cut.rest

pub loop-words-preserved : goal.loop-words-preserved
loop-words-preserved c =
    let told = strip_prefix_is Decides-eqb c.loop-words.left.now (32 ∷ []) c.strip_prefix.result c.strip_prefix.ensures.cases in
    let left_is : c.loop-words.left.now ≡ 32 ∷ c.in-Some.words.now = rw c.in-Some.is at told in
    let cut = c.first_word.ensures in
    let front = left_is ∙ ap (λ (t : List ℕ). 32 ∷ t) cut.parts in
    let fewer : c.loop-words.many ≢ 32 = first_of (search rules, grind (arith, common_steps)) in
    let yes : IsTrue c.follows.result = first_of (search rules, grind (arith, common_steps)) in
    row_more c.args.text.now c.loop-words.before.now c.loop-words.left.now c.first_word.result.0.now c.first_word.result.1.now c.loop-words.many c.loop-words.invariant fewer front cut.word cut.rest (c.follows.ensures.0 yes)

pub returns-clause-some : goal.returns-clause-some
returns-clause-some c =
    let told = strip_prefix_is Decides-eqb c.loop-words.left.now (32 ∷ []) c.strip_prefix.result c.strip_prefix.ensures.cases in
    let none = rw c.in_default.is at told in
    row_done c.args.text.now c.loop-words.before.now c.loop-words.left.now c.loop-words.many c.loop-words.invariant none
