use Rattle.std.proofs.Common.{◌++◌, codes, sym, ◌∙◌}
use Rattle.mdbox_base.specs.Numbers.{decimal_text}
use Rattle.file_paths.proofs.ReadLemmas.{middle_same, none_then, regroup}
use Rattle.file_paths.proofs.read.box_numbers.Goals as goal

pub returns-in_err-between-clause-none : goal.returns-in_err-between-clause-none
returns-in_err-between-clause-none c =
    rw c.from_residual.ensures (λ m n hm hn e. c.in_err-between.ensures.none (decimal_text m ++ (codes "." ++ decimal_text n)) (e ∙ regroup (decimal_text m) (decimal_text n)))

pub returns-clause-none : goal.returns-clause-none
returns-clause-none c =
    none_then c.numbers_of.result c.numbers_of.ensures.none (λ none m n hm hn e. none m n hm hn
    (middle_same (codes "mailboxes/b.") (codes ".log") _ _ (sym c.in_ok-between.ensures.some ∙ e ∙ regroup (decimal_text m) (decimal_text n))))
