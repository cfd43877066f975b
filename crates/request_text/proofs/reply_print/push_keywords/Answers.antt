use Rattle.std.proofs.Common.{ℕ, ◌≡◌, ◌<◌, ◌++◌, List, length, sym, ◌∙◌, ap, append-nil, arith}
use Rattle.std.proofs.lemmas.List.{take_all}
use Rattle.request_text.specs.ReplyText.{keywords_text}
use Rattle.request_text.proofs.ReplyPrintLemmas.{keyword_added}
use Rattle.request_text.proofs.reply_print.push_keywords.Goals as goal

pub loop-word-init : goal.loop-word-init
loop-word-init c = sym (append-nil c.args.text.now)

pub loop-word-preserved : goal.loop-word-preserved
loop-word-preserved c =
    let less : c.loop-word.word-index < length c.args.words.now = omega arith in
    let word : c.push_all-in-loop-word.new.self ≡ c.push_all.new.self ++ c.word-item.result = rw c.as_slice.ensures at c.in_ok-push_all-2.ensures.ok in
    keyword_added c.args.words.now c.args.text.now c.loop-word.text c.push_all.new.self c.push_all-in-loop-word.new.self c.word-item.result c.loop-word.word-index less c.word-item.is
    c.loop-word.invariant c.in_ok-push_all.ensures.ok word

pub returns : goal.returns
returns c =
    c.loop-word.invariant
    ∙ ap (λ (words : List (List ℕ)). c.args.text.now ++ keywords_text words) (take_all c.loop-word.word-index c.args.words.now c.loop-word-test.false)
