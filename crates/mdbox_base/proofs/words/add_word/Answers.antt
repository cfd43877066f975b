use Rattle.std.proofs.Common.{rules, ◌≡◌, ◌∙◌, ap, sym, subst, insert, Ok, Err}
use Rattle.std.specs.Cmp.Lexicographic.{slice_cmp}
use Rattle.std.specs.Ordering.{nat_cmp}
use Rattle.std.proofs.lemmas.Fn.{always_returns_same}
use Rattle.mdbox_base.specs.Keywords.{AreWordsWith}
use Rattle.mdbox_base.proofs.WordPlaceLemmas.{searched_words, with_same, with_more, absent_text}
use Rattle.mdbox_base.proofs.words.add_word.Goals as goal

pub returns-in-Ok-clause-there : goal.returns-in-Ok-clause-there
returns-in-Ok-clause-there c =
    let words = c.args.words.now.items in
    let text = c.args.text.now in
    let position = rw c.deref.ensures.value at (c.in-Ok.ensures.position (λ word. slice_cmp nat_cmp word text) (always_returns_same _ _ _ (λ a r f k. (search rules, search rules)))) in
    let here = searched_words words text c.requires.rising (Ok c.in-Ok.field-0) (rw c.deref.ensures.value at c.in-Ok.ensures.bound) position in
    λ _. with_same words text c.in-Ok.field-0 c.requires.few c.requires.rising here.found

pub returns-in-Err-clause-full : goal.returns-in-Err-clause-full
returns-in-Err-clause-full c =
    let words = c.args.words.now.items in
    let text = c.args.text.now in
    let position = rw c.deref.ensures.value at (c.in-Err.ensures.position (λ word. slice_cmp nat_cmp word text) (always_returns_same _ _ _ (λ a r f k. (search rules, search rules)))) in
    let gap = searched_words words text c.requires.rising (Err c.in-Err.field-0) (rw c.deref.ensures.value at c.in-Err.ensures.bound) position in
    λ _. (search rules, absent_text words text c.in-Err.field-0 gap.absent)

pub returns-in_ok-insert-in-Err-2-clause-there : goal.returns-in_ok-insert-in-Err-2-clause-there
returns-in_ok-insert-in-Err-2-clause-there c =
    let words = c.args.words.now.items in
    let text = c.args.text.now in
    let position = rw c.deref.ensures.value at (c.in-Err.ensures.position (λ word. slice_cmp nat_cmp word text) (always_returns_same _ _ _ (λ a r f k. (search rules, search rules)))) in
    let gap = searched_words words text c.requires.rising (Err c.in-Err.field-0) (rw c.deref.ensures.value at c.in-Err.ensures.bound) position in
    let new : c.insert.new.self.items ≡ insert words c.in-Err.field-0 text = c.in_ok-insert-in-Err-2.ensures.items ∙ ap (insert words c.in-Err.field-0) c.in_ok-copied_text-in-Err-2.ensures in
    λ _. subst (AreWordsWith text words) (sym new) (with_more words text c.in-Err.field-0 (search rules) c.requires.rising gap.absent)
