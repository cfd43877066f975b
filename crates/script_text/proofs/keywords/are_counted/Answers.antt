use Rattle.std.proofs.Common.{◌≡◌, false, true, length, ap, arith, sym, ◌∙◌}
use Rattle.std.proofs.lemmas.Bool.{eq-eqb, eqb-true}
use Rattle.script_text.proofs.CutLemmas.{other_decimal}
use Rattle.script_text.proofs.SpacedLemmas.{counted_parts, counted_text, keywords_have_none, small_count, texts_same}
use Rattle.script_text.proofs.keywords.are_counted.Goals as goal

pub returns-in_default : goal.returns-in_default
returns-in_default c = (
  λ t. absurd (let e : false ≡ true = t in cc e),
  λ is.
      let cut = c.first_word.ensures in
      let r = counted_parts c.args.words.now c.first_word.result.0.now c.first_word.result.1.now is.0 cut.parts cut.word cut.rest is.1 is.2 in
      absurd (c.in_default.ensures.none (length is.0) (small_count is.0 is.1) r.0),
)

pub returns-in_default-keywords_in : goal.returns-in_default-keywords_in
returns-in_default-keywords_in c = (
  λ t. absurd (let e : false ≡ true = t in cc e),
  λ is.
      let cut = c.first_word.ensures in
      let r = counted_parts c.args.words.now c.first_word.result.0.now c.first_word.result.1.now is.0 cut.parts cut.word cut.rest is.1 is.2 in
      absurd (c.in_default-keywords_in.ensures.none is.0 is.1 r.1.1),
)

pub returns : goal.returns
returns c =
    let cut = c.first_word.ensures in
    let some = c.in-Some-keywords_in.ensures.some in
    let clear = keywords_have_none 32 some.0 (omega arith) some.1 in (
      λ t.
          let same : c.in-Some.count ≡ c.in-Some-keywords_in.many = eqb-true _ _ t in
          (some.0, some.1, counted_text c.args.words.now c.first_word.result.0.now c.first_word.result.1.now c.in-Some.count some.0 cut.parts c.in-Some.ensures.some (some.3 ∙ sym same) (clear, some.2)),
      λ is.
          let r = counted_parts c.args.words.now c.first_word.result.0.now c.first_word.result.1.now is.0 cut.parts cut.word cut.rest is.1 is.2 in
          let same : some.0 ≡ is.0 = texts_same some.0 is.0 clear r.1.0 (sym some.2 ∙ r.1.1) in
          let count : c.in-Some.count ≡ length is.0 = other_decimal c.in-Some.count (length is.0) c.first_word.result.0.now (omega arith) (small_count is.0 is.1) c.in-Some.ensures.some r.0 in
          eq-eqb c.in-Some.count c.in-Some-keywords_in.many (count ∙ ap length (sym same) ∙ some.3),
    )
