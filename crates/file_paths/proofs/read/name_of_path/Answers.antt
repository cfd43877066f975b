use Rattle.std.proofs.Common.{sym, ◌∙◌}
use Rattle.std.proofs.lemmas.Slice.Eq.{bytes_eq-Decides}
use Rattle.file_paths.proofs.ReadLemmas.{none_then, no_name}
use Rattle.file_paths.proofs.read.name_of_path.Goals as goal

pub returns-in_default-mail_number-clause-none : goal.returns-in_default-mail_number-clause-none
returns-in_default-mail_number-clause-none c =
    none_then c.inst_of.result c.inst_of.ensures.none (no_name c.args.path.now
    (λ e. absurd (let n = sym c.if-eq.false ∙ c.eq.ensures ∙ (bytes_eq-Decides c.args.path.now c.as_slice.result.now).1 (e ∙ sym c.as_slice.ensures) in cc n))
    c.in_default.ensures.none c.in_default-box_numbers.ensures.none c.in_default-mail_number.ensures.none)
