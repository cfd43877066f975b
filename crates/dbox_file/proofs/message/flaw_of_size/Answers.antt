use Rattle.std.proofs.Common.{sym, ◌∙◌, ap, take, drop}
use Rattle.std.specs.Char.{is_ascii_hexdigit}
use Rattle.std.specs.List.{list_all}
use Rattle.dbox_file.specs.Sizes.{is_zero_digit}
use Rattle.dbox_file.proofs.SizeLemmas.{size_short, size_late}
use Rattle.dbox_file.proofs.message.flaw_of_size.Goals as goal
use Rattle.dbox_file.proofs.message.flaw_of_size.Goals.{else-all_zeros-via-then-all_zeros+else-all_digits, else-all_zeros-via-else-all_zeros}

pub returns-then-all_digits : goal.returns-then-all_digits
returns-then-all_digits c =
    let high = c.split_at.ensures.front ∙ ap (λ n. take n c.args.text.now) c.min.ensures in
    let low = c.split_at.ensures.back ∙ ap (λ n. drop n c.args.text.now) c.min.ensures in
    size_short c.args.text.now c.requires
    (ap (list_all is_zero_digit) (sym high) ∙ sym c.if-all_zeros.ensures)
    (ap (list_all is_ascii_hexdigit) (sym low) ∙ sym c.if-all_digits.ensures)

pub returns-else-all_zeros : goal.returns-else-all_zeros
returns-else-all_zeros c =
    let high = c.split_at.ensures.front ∙ ap (λ n. take n c.args.text.now) c.min.ensures in
    let low = c.split_at.ensures.back ∙ ap (λ n. drop n c.args.text.now) c.min.ensures in
    size_late c.args.text.now c.requires
    (λ zeros digits. elim c.else-all_zeros.branch [
      | else-all_zeros-via-then-all_zeros+else-all_digits w ↦ (let e = ap (list_all is_ascii_hexdigit) low ∙ digits in cc (e, w.if-all_digits.false, w.all_digits.ensures))
      | else-all_zeros-via-else-all_zeros w ↦ (let e = ap (list_all is_zero_digit) high ∙ zeros in cc (e, w.if-all_zeros.false, c.all_zeros.ensures))
    ])
