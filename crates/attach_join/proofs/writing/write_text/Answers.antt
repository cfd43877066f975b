use Rattle.std.proofs.Common.{◌≡◌, ◌+◌, ◌-◌, ◌∙◌, drop, length, sym, ap, arith}
use Rattle.std.proofs.lemmas.List.{length-drop, length-take-le}
use Rattle.model_base64.specs.Base64Text.{text_of}
use Rattle.attach_join.proofs.TextLemmas.{part_is, range_last, range_passed, range_written}
use Rattle.attach_join.proofs.writing.write_text.Goals as goal

pub returns-in-Some-clause-text : goal.returns-in-Some-clause-text
returns-in-Some-clause-text c =
    let within = c.requires.within in
    let start = c.args.reference.start in
    let count = c.args.reference.count in
    let n : start + count - start ≡ count = omega arith in
    let left = length-drop start c.args.whole.now in
    let long : length c.write_lines.new.range ≡ count = c.write_lines.auto.range ∙ length-take-le (start + count - start) (drop start c.args.whole.now) (omega (arith, left, within)) ∙ n in
    range_written c.args.whole.now c.write_lines.new.range start count (start + count - start) (omega (arith, within)) n long ∙ c.write_lines.ensures.text
    ∙ ap (text_of c.in-Some.form) (range_last c.args.whole.now start count c.args.size (start + count - start) within c.requires.size n) ∙ sym (part_is c.args.reference.form c.in-Some.form _ c.in-Some.is)

pub returns-in-Some-clause-behind : goal.returns-in-Some-clause-behind
returns-in-Some-clause-behind c =
    let within = c.requires.within in
    let start = c.args.reference.start in
    let count = c.args.reference.count in
    let n : start + count - start ≡ count = omega arith in
    let left = length-drop start c.args.whole.now in
    let long : length c.write_lines.new.range ≡ count = c.write_lines.auto.range ∙ length-take-le (start + count - start) (drop start c.args.whole.now) (omega (arith, left, within)) ∙ n in
    range_passed c.args.whole.now c.write_lines.new.range start count (start + count - start) (omega (arith, within)) n long
