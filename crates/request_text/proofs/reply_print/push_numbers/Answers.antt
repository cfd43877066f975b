use Rattle.std.proofs.Common.{ℕ, ◌<◌, ◌++◌, List, length, get_or, sym, ◌∙◌, ap, append-nil, arith}
use Rattle.std.proofs.lemmas.List.{get_or_default, take_all}
use Rattle.request_text.specs.ReplyText.{numbers_text}
use Rattle.request_text.proofs.ReplyPrintLemmas.{number_added}
use Rattle.request_text.proofs.reply_print.push_numbers.Goals as goal

pub loop-number-init : goal.loop-number-init
loop-number-init c = sym (append-nil c.args.text.now)

pub loop-number-preserved : goal.loop-number-preserved
loop-number-preserved c =
    let n : ℕ = get_or c.args.numbers.now c.loop-number.number-index 0 in
    let less : c.loop-number.number-index < length c.args.numbers.now = omega arith in
    number_added c.args.numbers.now c.args.text.now c.loop-number.text c.push_all.new.self c.push_decimal.new.out n c.loop-number.number-index less (get_or_default c.args.numbers.now c.loop-number.number-index 0 n less)
    c.loop-number.invariant c.in_ok-push_all.ensures.ok c.in_ok-push_decimal.ensures.ok

pub returns : goal.returns
returns c =
    c.loop-number.invariant
    ∙ ap (λ (ns : List ℕ). c.args.text.now ++ numbers_text ns) (take_all c.loop-number.number-index c.args.numbers.now c.loop-number-test.false)
