use Rattle.std.proofs.Common.{◌≡◌, [], length, map, string_bytes, sym, ◌∙◌, subst, arith}
use Rattle.std.proofs.lemmas.List.{length-map}
use borrow.Author.Count.{below_more}
use Rattle.mdbox_base.specs.Keywords.{IsKeyword}
use Rattle.request_text.specs.GivenWords.{text_at}
use Rattle.request_text.proofs.GivenWordLemmas.{any_default, text_is}
use Rattle.request_text.proofs.keywords.first_other.Goals as goal

pub loop-place-preserved : goal.loop-place-preserved
loop-place-preserved c =
    let texts = map string_bytes c.args.words.now in
    let here : text_at texts c.loop-place.place ≡ c.as_bytes.result.now = text_is string_bytes c.args.words.now c.loop-place.place c.index-words-place.result c.loop-place-test.true c.index-words-place.is ∙ sym c.as_bytes.ensures.value in
    below_more (λ earlier. IsKeyword (text_at texts earlier)) c.loop-place.place c.loop-place.invariant (subst IsKeyword (sym here) (c.is_keyword.ensures.0 c.if-not-is_keyword.false))

pub returns-clause-none : goal.returns-clause-none
returns-clause-none c =
    let texts = map string_bytes c.args.words.now in
    let long : length texts ≡ length c.args.words.now = length-map c.args.words.now string_bytes in
    λ k d lt. subst IsKeyword (any_default texts k [] d lt) (c.loop-place.invariant k (omega (arith, long, lt)))
