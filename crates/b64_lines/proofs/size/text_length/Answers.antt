use Rattle.std.proofs.Common.{◌*◌, ap, ◌∙◌}
use Rattle.b64_lines.proofs.SizeLemmas.{text_is, rounded_up}
use Rattle.b64_lines.proofs.size.text_length.Goals as goal

pub returns : goal.returns
returns c text is = rw (c.saturating_sub.ensures, c.from.ensures, c.break_size.ensures)
    (text_is c.args.form text c.args.octets (4 * c.div_ceil-characters.result) c.requires.form is (ap (λ x. 4 * x) (c.div_ceil-characters.ensures ∙ rounded_up c.args.octets)))
