use Rattle.std.proofs.Common.{rules, ℕ, List, subst}
use Rattle.std.proofs.lemmas.List.{take_all}
use Rattle.mdbox_base.proofs.WordPlaceLemmas.{AreSoFar, next_so_far, not_a_keyword, not_so_many, words_so_far, words_are_of}
use Rattle.mdbox_base.proofs.words.words_of.Goals as goal
use Rattle.mdbox_base.proofs.words.words_of.Goals.{then-not-is_word-via-then-not-is_word, then-not-is_word-via-else-not-is_word+in_ok-add_word+then-not-branch}

pub returns-then-not-is_word-clause-none : goal.returns-then-not-is_word-clause-none
returns-then-not-is_word-clause-none c = elim c.then-not-is_word.branch [
  | then-not-is_word-via-then-not-is_word w ↦ not_a_keyword c.args.texts.now c.loop-text.text-index c.text-item.result (rw c.as_slice-text-items.ensures at c.loop-text-test.true) (rw c.as_slice-text-items.ensures at c.text-item.is) (λ keyword. let k = c.is_word.ensures.1 keyword in let e = w.if-not-is_word.true in cc (k, e))
  | then-not-is_word-via-else-not-is_word+in_ok-add_word+then-not-branch w ↦ not_so_many c.args.texts.now c.loop-text.text-index c.loop-text.words.items c.text-item.result (rw c.as_slice-text-items.ensures at c.loop-text-test.true) (rw c.as_slice-text-items.ensures at c.text-item.is) c.loop-text.invariant (w.in_ok-add_word.ensures.full (search rules))
]

pub loop-text-preserved : goal.loop-text-preserved
loop-text-preserved c =
    next_so_far c.args.texts.now c.loop-text.text-index c.loop-text.words.items c.add_word.new.words.items c.text-item.result (rw c.as_slice-text-items.ensures at c.loop-text-test.true) (rw c.as_slice-text-items.ensures at c.text-item.is) c.loop-text.invariant (search rules) (search rules)

pub of-requires-2 : goal.of-requires-2
of-requires-2 c =
    let all : AreSoFar c.args.texts.now c.loop-text.words.items = subst (λ (seen : List (List ℕ)). AreSoFar seen c.loop-text.words.items) (take_all c.loop-text.text-index c.args.texts.now (search rules)) c.loop-text.invariant in
    record { words = rw c.of.ensures (words_so_far c.args.texts.now c.loop-text.words.items all) }

pub returns-clause-some : goal.returns-clause-some
returns-clause-some c =
    let all : AreSoFar c.args.texts.now c.loop-text.words.items = subst (λ (seen : List (List ℕ)). AreSoFar seen c.loop-text.words.items) (take_all c.loop-text.text-index c.args.texts.now (search rules)) c.loop-text.invariant in
    rw (c.of-2.ensures, c.of.ensures) (words_are_of c.args.texts.now c.loop-text.words.items all)
