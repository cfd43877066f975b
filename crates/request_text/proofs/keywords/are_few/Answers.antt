use Rattle.std.proofs.Common.{◌≡◌, ◌<◌, ◌++◌, ◌+◌, ◌∷◌, [], List, ℕ, length, map, take, string_bytes, sym, ◌∙◌, ap, subst, arith}
use Rattle.std.proofs.lemmas.List.{length-map, length-take-le, take_more_set}
use Rattle.request_text.specs.GivenWords.{StandsAgain}
use Rattle.request_text.proofs.GivenWordLemmas.{AreFound, found_again, found_new, found_too_many}
use Rattle.request_text.proofs.keywords.are_few.Goals as goal
use Rattle.request_text.proofs.keywords.are_few.Goals.{then-not-is_among+else-found-eq-MOST_KEYWORDS, else-not-is_among}

pub returns-then-found-eq-MOST_KEYWORDS : goal.returns-then-found-eq-MOST_KEYWORDS
returns-then-found-eq-MOST_KEYWORDS c =
    let texts = map string_bytes c.args.words.now in
    let places = take c.loop-place.found c.loop-place.places in
    let long : length texts ≡ length c.args.words.now = length-map c.args.words.now string_bytes in
    let lt : c.loop-place.place < length texts = omega (arith, long) in
    let full : length places ≡ 32 = length-take-le c.loop-place.found c.loop-place.places (omega arith) ∙ c.if-found-eq-MOST_KEYWORDS.true in
    let new : StandsAgain texts places c.loop-place.place → ⊥ = λ again. (let yes = c.is_among.ensures.1 again in let no = c.if-not-is_among.true in cc (yes, no)) in
    (λ e. absurd (cc e), λ few. absurd (found_too_many texts places c.loop-place.place lt c.loop-place.invariant.found full new few))

pub loop-place-preserved : goal.loop-place-preserved
loop-place-preserved c =
    let texts = map string_bytes c.args.words.now in
    let places = take c.loop-place.found c.loop-place.places in
    let long : length texts ≡ length c.args.words.now = length-map c.args.words.now string_bytes in
    let lt : c.loop-place.place < length texts = omega (arith, long) in
    elim c.if-not-is_among.branch [
      | then-not-is_among+else-found-eq-MOST_KEYWORDS w ↦ (
          let new : StandsAgain texts places c.loop-place.place → ⊥ = λ again. (let yes = c.is_among.ensures.1 again in let no = w.if-not-is_among.true in cc (yes, no)) in
          let less : c.loop-place.found < 32 = (let other = w.if-found-eq-MOST_KEYWORDS.false in omega (arith, other)) in
          let more : take c.if-not-is_among.found c.if-not-is_among.places ≡ places ++ c.loop-place.place ∷ [] =
          ap (λ (n : ℕ). take n c.if-not-is_among.places) w.found-is ∙ (ap (take (c.loop-place.found + 1)) w.places-is ∙ take_more_set c.loop-place.places c.loop-place.found c.loop-place.place (omega (arith, less))) in
          record {
            within = omega arith;
            few = omega (arith, less);
            found = subst (λ (ps : List ℕ). AreFound texts ps (c.loop-place.place + 1)) (sym more) (found_new texts places c.loop-place.place lt c.loop-place.invariant.found new);
          })
      | else-not-is_among w ↦ (
          let same : take c.if-not-is_among.found c.if-not-is_among.places ≡ places = ap (λ (n : ℕ). take n c.if-not-is_among.places) w.found-is ∙ ap (take c.loop-place.found) w.places-is in
          record {
            within = omega arith;
            few = omega arith;
            found = subst (λ (ps : List ℕ). AreFound texts ps (c.loop-place.place + 1)) (sym same) (found_again texts places c.loop-place.place lt c.loop-place.invariant.found (c.is_among.ensures.0 w.if-not-is_among.false));
          })
    ]
