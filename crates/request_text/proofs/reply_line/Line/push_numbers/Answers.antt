use Rattle.std.proofs.Common.{ℕ, ◌<◌, ◌++◌, [], ◌∷◌, List, length, get_or, refl, sym, ◌∙◌, ap, append-nil, append_assoc, arith}
use Rattle.std.proofs.lemmas.List.{get_or_default, take_all}
use Rattle.mdbox_base.specs.Numbers.{decimal_text}
use Rattle.request_text.specs.ReplyText.{numbers_text}
use Rattle.request_text.proofs.ReplyPrintLemmas.{number_added}
use Rattle.request_text.proofs.reply_line.Line.push_numbers.Goals as goal

pub loop-number-init : goal.loop-number-init
loop-number-init c = (sym (append-nil c.args.self.now), omega arith)

pub push_number-requires : goal.push_number-requires
push_number-requires c = let room = c.loop-number.invariant.1 in omega arith

pub loop-number-preserved : goal.loop-number-preserved
loop-number-preserved c =
    let n : ℕ = get_or c.args.numbers.now c.loop-number.number-index 0 in
    let less : c.loop-number.number-index < length c.args.numbers.now = omega arith in
    let room = c.loop-number.invariant.1 in (
      number_added c.args.numbers.now c.args.self.now c.loop-number.self _ c.push_number.new.self n c.loop-number.number-index less (get_or_default c.args.numbers.now c.loop-number.number-index 0 n less)
          c.loop-number.invariant.0 refl (c.push_number.ensures.text ∙ sym (append_assoc c.loop-number.self (32 ∷ []) (decimal_text n))),
      omega arith,
    )

pub returns-clause-text : goal.returns-clause-text
returns-clause-text c =
    c.loop-number.invariant.0
    ∙ ap (λ (ns : List ℕ). c.args.self.now ++ numbers_text ns) (take_all c.loop-number.number-index c.args.numbers.now c.loop-number-test.false)

pub returns-clause-room : goal.returns-clause-room
returns-clause-room c = let room = c.loop-number.invariant.1 in omega arith
