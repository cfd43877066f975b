use Rattle.std.proofs.Common.{◌≡◌, ◌∷◌, ◌∙◌, List, ℕ, length, sym, subst}
use Rattle.mdbox_base.specs.Keywords.{AreWords}
use Rattle.mdbox_base.specs.Numbers.{decimal_text}
use Rattle.script_text.specs.Reading.{AreTextsOf}
use Rattle.script_text.specs.Script.{spaced}
use Rattle.script_text.proofs.SpacedLemmas.{counted_parts, texts_same}
use Rattle.script_text.proofs.keywords.counted_words.Goals as goal

pub of-requires : goal.of-requires
of-requires c =
    let are = c.requires in
    let cut = c.first_word.ensures in
    let r = counted_parts c.args.words.now c.first_word.result.0.now c.first_word.result.1.now are.0 cut.parts cut.word cut.rest are.1 are.2 in
    let found : AreTextsOf c.in_ok-texts.texts c.first_word.result.1.now = c.in_ok-texts.ensures in
    let same : c.in_ok-texts.texts ≡ are.0 = texts_same c.in_ok-texts.texts are.0 found.0 r.1.0 (sym found.1 ∙ r.1.1) in
    record { words = subst AreWords (sym same) are.1 }

pub returns : goal.returns
returns c =
    let are = c.requires in
    let cut = c.first_word.ensures in
    let r = counted_parts c.args.words.now c.first_word.result.0.now c.first_word.result.1.now are.0 cut.parts cut.word cut.rest are.1 are.2 in
    let found : AreTextsOf c.in_ok-texts.texts c.first_word.result.1.now = c.in_ok-texts.ensures in
    let same : c.in_ok-texts.texts ≡ are.0 = texts_same c.in_ok-texts.texts are.0 found.0 r.1.0 (sym found.1 ∙ r.1.1) in
    let all : c.of.result ≡ are.0 = c.of.ensures ∙ same in
    (subst AreWords (sym all) are.1, subst (λ (t : List (List ℕ)). c.args.words.now ≡ spaced (decimal_text (length t) ∷ t)) (sym all) are.2)
