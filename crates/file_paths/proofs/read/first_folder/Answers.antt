use Rattle.std.proofs.Common.{◌∷◌, [], sym, ◌∙◌, arith}
use Rattle.file_paths.proofs.InstLemmas.{cut_digits, one_octet}
use Rattle.file_paths.proofs.read.first_folder.Goals as goal

pub returns-in_err-octet_of-clause-none : goal.returns-in_err-octet_of-clause-none
returns-in_err-octet_of-clause-none c =
    rw c.from_residual-in_err-octet_of.ensures (λ octet rest lt e.
    let r = cut_digits 47 (octet ∷ []) c.in_ok-folder.folder.now c.in_ok-folder.rest.now rest (omega arith) (one_octet octet lt) c.in_ok-folder.ensures.some.1 (sym c.in_ok-folder.ensures.some.0 ∙ e) in
    c.in_err-octet_of.ensures.none octet lt r.0)
