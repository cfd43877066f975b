use Rattle.std.proofs.Common.{codes, sym, ◌∙◌}
use Rattle.mdbox_base.specs.Numbers.{decimal_text}
use Rattle.file_paths.proofs.ReadLemmas.{middle_same, none_then}
use Rattle.file_paths.proofs.read.map_generation.Goals as goal

pub returns-in_err-between-clause-none : goal.returns-in_err-between-clause-none
returns-in_err-between-clause-none c = rw c.from_residual.ensures (λ n h e. c.in_err-between.ensures.none (decimal_text n) e)

pub returns-clause-none : goal.returns-clause-none
returns-clause-none c =
    none_then c.number_of.result c.number_of.ensures.none (λ none n h e. none n h (middle_same (codes "storage/map.") (codes ".log") _ _ (sym c.in_ok-between.ensures.some ∙ e)))
