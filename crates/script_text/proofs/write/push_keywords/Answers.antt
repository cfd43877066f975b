use Rattle.std.proofs.Common.{◌≡◌, ◌++◌, ◌∷◌, ℕ, List, length, take, ap, sym, ◌∙◌, arith}
use Rattle.std.proofs.lemmas.List.{take_all}
use Rattle.mdbox_base.specs.Numbers.{decimal_text}
use Rattle.script_text.specs.Reading.{each_spaced}
use Rattle.script_text.proofs.SpacedLemmas.{spaced_each}
use Rattle.script_text.proofs.write.push_keywords.Goals as goal

pub returns : goal.returns
returns c =
    let words = c.args.words.now in
    let all : take c.loop-word.word-index words ≡ words = take_all c.loop-word.word-index words (omega arith) in
    c.loop-word.invariant ∙ ap (λ (t : List ℕ). c.args.text.now ++ 32 ∷ t) (ap (λ (w : List (List ℕ)). decimal_text (length words) ++ each_spaced w) all ∙ sym (spaced_each (decimal_text (length words)) words))
