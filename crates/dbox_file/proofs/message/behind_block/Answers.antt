use Rattle.std.proofs.lemmas.Result.{err_from_is_err_and, IfOk-weaker, IfErr-weaker}
use Rattle.dbox_file.proofs.MessageLemmas.{block_flaw_trailer, block_flaw_lines, block_found}
use Rattle.dbox_file.proofs.message.behind_block.Goals as goal

pub returns-in_err-rest-clause-flaw : goal.returns-in_err-rest-clause-flaw
returns-in_err-rest-clause-flaw c =
    let p = err_from_is_err_and c.from_residual.result c.from_residual.ensures.1 in
    rw (p.1, p.2) (block_flaw_trailer c.args.text.now _ c.in_err-rest.ensures.flaw)

pub returns-clause-found : goal.returns-clause-found
returns-clause-found c =
    IfOk-weaker c.behind_lines.result _ _ (λ rest f. block_found c.args.text.now _ rest.now c.in_ok-rest.ensures.found f) c.behind_lines.ensures.found

pub returns-clause-flaw : goal.returns-clause-flaw
returns-clause-flaw c =
    IfErr-weaker c.behind_lines.result _ _ (λ flaw f. block_flaw_lines c.args.text.now _ flaw c.in_ok-rest.ensures.found f) c.behind_lines.ensures.flaw
