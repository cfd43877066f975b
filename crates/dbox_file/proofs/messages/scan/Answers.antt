use Rattle.std.proofs.Common.{inr, Ok, Err}
use Rattle.std.proofs.lemmas.Result.{err_from_is_err_and}
use Rattle.model_storage.proofs.ScanLemmas.{answer_same}
use Rattle.dbox_file.proofs.ScanLemmas.{scanned_header, scanned_message, scanned_all, scanned_refused}
use Rattle.dbox_file.proofs.messages.scan.Goals as goal

pub returns-in_err-offset-clause-exactly : goal.returns-in_err-offset-clause-exactly
returns-in_err-offset-clause-exactly c =
    let p = err_from_is_err_and c.from_residual.result c.from_residual.ensures.1 in
    rw (p.1, p.2) (λ answer gives. inr (answer_same c.args.file.now (Err _) answer c.in_err-offset.ensures.err gives))

pub loop-offset-init : goal.loop-offset-init
loop-offset-init c = scanned_header c.args.file.now c.in_ok-offset.offset c.empty-messages.result c.empty-messages.ensures c.in_ok-offset.ensures.ok

pub returns-in_err-message-clause-gives : goal.returns-in_err-message-clause-gives
returns-in_err-message-clause-gives c =
    let p = err_from_is_err_and c.from_residual-in_err-message.result c.from_residual-in_err-message.ensures.1 in
    rw (p.1, p.2) (inr (scanned_refused c.args.file.now c.loop-offset.offset _ _ c.loop-offset.invariant c.loop-offset-test.true c.in_err-message.ensures))

pub returns-in_err-message-clause-exactly : goal.returns-in_err-message-clause-exactly
returns-in_err-message-clause-exactly c =
    let p = err_from_is_err_and c.from_residual-in_err-message.result c.from_residual-in_err-message.ensures.1 in
    rw (p.1, p.2)
    (λ answer gives. inr (answer_same c.args.file.now (Err _) answer (scanned_refused c.args.file.now c.loop-offset.offset _ _ c.loop-offset.invariant c.loop-offset-test.true c.in_err-message.ensures) gives))

pub loop-offset-preserved : goal.loop-offset-preserved
loop-offset-preserved c =
    scanned_message c.args.file.now c.loop-offset.offset c.in_ok-message.message c.loop-offset.messages c.push.new.self c.loop-offset.invariant c.in_ok-message.ensures c.in_ok-push.ensures.ok

pub returns-clause-gives : goal.returns-clause-gives
returns-clause-gives c = inr (scanned_all c.args.file.now c.loop-offset.offset c.loop-offset.messages c.loop-offset.invariant c.loop-offset-test.false)

pub returns-clause-exactly : goal.returns-clause-exactly
returns-clause-exactly c =
    λ answer gives. inr (answer_same c.args.file.now (Ok _) answer (scanned_all c.args.file.now c.loop-offset.offset c.loop-offset.messages c.loop-offset.invariant c.loop-offset-test.false) gives)
