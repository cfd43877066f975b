use Rattle.std.proofs.lemmas.Result.{err_from_is_err_and}
use Rattle.dbox_file.proofs.MessageLemmas.{header_flaw_mark, header_flaw_filler, header_flaw_size, header_flaw_end, header_found}
use Rattle.dbox_file.proofs.message.message_header.Goals as goal

pub returns-in_err-rest-clause-flaw : goal.returns-in_err-rest-clause-flaw
returns-in_err-rest-clause-flaw c =
    let p = err_from_is_err_and c.from_residual.result c.from_residual.ensures.1 in
    rw (p.1, p.2) (header_flaw_mark c.args.text.now _ c.in_err-rest.ensures.flaw)

pub returns-in_err-rest-2-clause-flaw : goal.returns-in_err-rest-2-clause-flaw
returns-in_err-rest-2-clause-flaw c =
    let p = err_from_is_err_and c.from_residual-in_err-rest-2.result c.from_residual-in_err-rest-2.ensures.1 in
    rw (p.1, p.2) (header_flaw_filler c.args.text.now _ _ c.in_ok-rest.ensures.found c.in_err-rest-2.ensures.flaw)

pub returns-in_err-size-clause-flaw : goal.returns-in_err-size-clause-flaw
returns-in_err-size-clause-flaw c =
    let p = err_from_is_err_and c.from_residual-in_err-size.result c.from_residual-in_err-size.ensures.1 in
    rw (p.1, p.2) (header_flaw_size c.args.text.now _ _ _ c.in_ok-rest.ensures.found c.in_ok-rest-2.ensures.found c.in_err-size.ensures.flaw)

pub returns-in_err-rest-3-clause-flaw : goal.returns-in_err-rest-3-clause-flaw
returns-in_err-rest-3-clause-flaw c =
    let p = err_from_is_err_and c.from_residual-in_err-rest-3.result c.from_residual-in_err-rest-3.ensures.1 in
    rw (p.1, p.2) (header_flaw_end c.args.text.now _ _ _ _ _ c.in_ok-rest.ensures.found c.in_ok-rest-2.ensures.found c.in_ok-size.ensures.found c.in_err-rest-3.ensures.flaw)

pub returns-clause-found : goal.returns-clause-found
returns-clause-found c =
    header_found c.args.text.now _ _ _ _ _ c.in_ok-rest.ensures.found c.in_ok-rest-2.ensures.found c.in_ok-size.ensures.found c.in_ok-rest-3.ensures.found
