use Rattle.std.proofs.lemmas.Result.{err_from_is_err_and}
use Rattle.dbox_file.proofs.MessageLemmas.{message_flaw_header, message_flaw_body, message_flaw_block, message_found}
use Rattle.dbox_file.proofs.message.message.Goals as goal

pub returns-in_err-size-clause-flaw : goal.returns-in_err-size-clause-flaw
returns-in_err-size-clause-flaw c =
    let p = err_from_is_err_and c.from_residual.result c.from_residual.ensures.1 in
    rw (p.1, p.2) (message_flaw_header c.args.text.now _ c.in_err-size.ensures.flaw)

pub returns-in_err-rest-clause-flaw : goal.returns-in_err-rest-clause-flaw
returns-in_err-rest-clause-flaw c =
    let p = err_from_is_err_and c.from_residual-in_err-rest.result c.from_residual-in_err-rest.ensures.1 in
    let short = c.in_err-rest.ensures.flaw in
    rw (p.1, p.2, short.0) (message_flaw_body c.args.text.now _ _ c.in_ok-size.ensures.found short.1)

pub returns-in_err-rest-2-clause-flaw : goal.returns-in_err-rest-2-clause-flaw
returns-in_err-rest-2-clause-flaw c =
    let p = err_from_is_err_and c.from_residual-in_err-rest-2.result c.from_residual-in_err-rest-2.ensures.1 in
    let body = c.in_ok-rest.ensures.found in
    rw (p.1, p.2) (message_flaw_block c.args.text.now _ _ _ _ c.in_ok-size.ensures.found body.1 body.0 c.in_err-rest-2.ensures.flaw)

pub returns-clause-found : goal.returns-clause-found
returns-clause-found c =
    let body = c.in_ok-rest.ensures.found in
    message_found c.args.text.now _ _ _ _ c.in_ok-size.ensures.found body.1 body.0 c.in_ok-rest-2.ensures.found
