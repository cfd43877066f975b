use Rattle.std.proofs.Common.{◌≡◌, ◌<◌, ◌≤◌, ℕ, List, arith, rules, sym, ◌∙◌, ap}
use Rattle.std.specs.Prelude.{◌≢◌, ◌∷◌, [], ◌++◌, ◌^◌, codes, length}
use Rattle.std.proofs.lemmas.Bool.Decides.{Decides-eqb}
use Rattle.std.proofs.lemmas.Grind.{common_steps}
use Rattle.std.proofs.lemmas.Slice.Eq.{strip_prefix_is}
use Rattle.mdbox_base.specs.Numbers.{decimal_text}
use Rattle.mdbox_base.specs.Words.{IsName}
use Rattle.script_text.specs.Script.{name_word, spaced}
use Rattle.script_text.proofs.TakeLemmas.{message_small, no_delivery, no_line, no_message, size_told, words_behind}
use Rattle.script_text.proofs.take.octets_after.Goals as goal
use Rattle.script_text.proofs.take.octets_after.Goals.{in-Ok+else-size-le-MOST_OCTETS, in-Err+in-Bad-1}

pub returns-in_default-lane_and_words-clause-line : goal.returns-in_default-lane_and_words-clause-line
returns-in_default-lane_and_words-clause-line c = λ asked fits is. absurd (no_line c.args.lanes asked c.args.text.now c.in-Some.line.now _ (omega arith) fits c.in-Some.ensures.some.0 c.in-Some.ensures.some.1 c.in_default-lane_and_words.ensures.none is)

pub returns-in_default-strip_prefix-clause-line : goal.returns-in_default-strip_prefix-clause-line
returns-in_default-strip_prefix-clause-line c = λ asked fits is.
    let told = strip_prefix_is Decides-eqb c.in-Some-lane_and_words.words.now (codes "deliver ") c.strip_prefix.result c.strip_prefix.ensures.cases in
    let none = rw c.in_default-strip_prefix.is at told in
    let words = words_behind c.args.lanes _ asked c.args.text.now c.in-Some.line.now _ c.in-Some-lane_and_words.words.now (omega arith) fits c.in-Some.ensures.some.0 c.in-Some.ensures.some.1 c.in-Some-lane_and_words.ensures.some.1 c.in-Some-lane_and_words.ensures.some.2 is in
    no_message asked.1 (λ rest e. none rest (words ∙ e))

pub returns-in-Ok-clause-line : goal.returns-in-Ok-clause-line
returns-in-Ok-clause-line c = λ asked fits is.
    let told = strip_prefix_is Decides-eqb c.in-Some-lane_and_words.words.now (codes "deliver ") c.strip_prefix.result c.strip_prefix.ensures.cases in
    let begins = rw c.in-Some-strip_prefix.is at told in
    let words = words_behind c.args.lanes _ asked c.args.text.now c.in-Some.line.now _ c.in-Some-lane_and_words.words.now (omega arith) fits c.in-Some.ensures.some.0 c.in-Some.ensures.some.1 c.in-Some-lane_and_words.ensures.some.1 c.in-Some-lane_and_words.ensures.some.2 is in
    let found = c.in-Ok.ensures.found in
    size_told _ _ c.in-Ok.size c.in-Some-strip_prefix.arguments.now found.0 found.1 found.2 found.3 asked.1 fits.fits (sym begins ∙ words)

pub returns-in-Ok-2-clause-line : goal.returns-in-Ok-2-clause-line
returns-in-Ok-2-clause-line c = λ asked fits is.
    let told = strip_prefix_is Decides-eqb c.in-Some-lane_and_words.words.now (codes "deliver ") c.strip_prefix.result c.strip_prefix.ensures.cases in
    let begins = rw c.in-Some-strip_prefix.is at told in
    let words = words_behind c.args.lanes _ asked c.args.text.now c.in-Some.line.now _ c.in-Some-lane_and_words.words.now (omega arith) fits c.in-Some.ensures.some.0 c.in-Some.ensures.some.1 c.in-Some-lane_and_words.ensures.some.1 c.in-Some-lane_and_words.ensures.some.2 is in
    elim c.in-Ok-2-1.branch [
      | in-Ok+else-size-le-MOST_OCTETS w ↦
          let found = w.in-Ok.ensures.found in
          let told_size = size_told _ _ w.in-Ok.size c.in-Some-strip_prefix.arguments.now found.0 found.1 found.2 found.3 asked.1 fits.fits (sym begins ∙ words) in
          let small = message_small asked.1 fits.fits in
          let long = w.if-size-le-MOST_OCTETS.false in
          absurd (omega (arith, told_size, small, long))
      | in-Err+in-Bad-1 w ↦
          let none : (name : List ℕ) (time size : ℕ) → IsName name → time < 2 ^ 64 → size < 2 ^ 64 → c.in-Some-strip_prefix.arguments.now ≢ spaced (name_word name ∷ decimal_text time ∷ decimal_text size ∷ []) = first_of (search rules, grind (arith, common_steps)) in
          absurd (no_delivery c.in-Some-strip_prefix.arguments.now none asked.1 fits.fits (sym begins ∙ words))
    ]
