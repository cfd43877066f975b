use Rattle.std.proofs.Common.{◌≡◌, true, map, string_bytes, get_or, sym, ◌∙◌, refl, arith}
use Rattle.std.specs.Str.{bytes_eq}
use Rattle.std.proofs.lemmas.Slice.Eq.{bytes_eq-Decides}
use borrow.Author.Count.{below_more}
use Rattle.request_text.specs.GivenWords.{text_at}
use Rattle.request_text.proofs.GivenWordLemmas.{text_is, stands_at, stands_nowhere}
use Rattle.request_text.proofs.keywords.is_among.Goals as goal

pub returns-then-eq : goal.returns-then-eq
returns-then-eq c =
    let texts = map string_bytes c.args.words.now in
    let one = text_is string_bytes c.args.words.now (get_or c.args.places.now c.loop-other.other-index 0) c.index-words-other.result (c.requires.each c.loop-other.other-index 0 c.loop-other-test.true) c.index-words-other.is ∙ sym c.as_bytes.ensures.value in
    let two = text_is string_bytes c.args.words.now c.args.place c.index-words-place.result c.requires.within c.index-words-place.is ∙ sym c.as_bytes-in-loop-other.ensures.value in
    let same = (bytes_eq-Decides c.as_bytes.result.now c.as_bytes-in-loop-other.result.now).0 (sym c.eq.ensures ∙ c.if-eq.true) in
    (λ _. stands_at texts c.args.places.now c.args.place c.loop-other.other-index c.loop-other-test.true (one ∙ (same ∙ sym two)), λ _. refl)

pub loop-other-preserved : goal.loop-other-preserved
loop-other-preserved c =
    let texts = map string_bytes c.args.words.now in
    let one = text_is string_bytes c.args.words.now (get_or c.args.places.now c.loop-other.other-index 0) c.index-words-other.result (c.requires.each c.loop-other.other-index 0 c.loop-other-test.true) c.index-words-other.is ∙ sym c.as_bytes.ensures.value in
    let two = text_is string_bytes c.args.words.now c.args.place c.index-words-place.result c.requires.within c.index-words-place.is ∙ sym c.as_bytes-in-loop-other.ensures.value in
    below_more (λ k. text_at texts (get_or c.args.places.now k 0) ≡ text_at texts c.args.place → ⊥) c.loop-other.other-index c.loop-other.invariant (λ e.
    let yes : bytes_eq c.as_bytes.result.now c.as_bytes-in-loop-other.result.now ≡ true = (bytes_eq-Decides c.as_bytes.result.now c.as_bytes-in-loop-other.result.now).1 (sym one ∙ (e ∙ two)) in
    let is : c.eq.result ≡ true = c.eq.ensures ∙ yes in
    let no = c.if-eq.false in
    cc (is, no))

pub returns : goal.returns
returns c = (
  λ e. absurd (cc e),
  λ again. absurd (stands_nowhere (map string_bytes c.args.words.now) c.args.places.now c.args.place (λ k lt. c.loop-other.invariant k (let end = c.loop-other-test.false in omega (arith, lt, end))) again),
)
