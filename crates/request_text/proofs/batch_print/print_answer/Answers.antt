use Rattle.std.proofs.lemmas.Result.{err_from_is_err_and, on_err_weaker}
use Rattle.piece_writer.proofs.PieceLemmas.{cut_end}
use Rattle.request_text.proofs.batch_print.print_answer.Goals as goal

pub returns-in_err-put_numbered-clause-err : goal.returns-in_err-put_numbered-clause-err
returns-in_err-put_numbered-clause-err g c =
    let p = err_from_is_err_and c.from_residual.result c.from_residual.ensures.1 in
    rw p.1 (rw (c.empty-writer.ensures, c.places.ensures, c.steps_behind-steps.ensures) at c.in_err-put_numbered.ensures.err)

pub returns-clause-err : goal.returns-clause-err
returns-clause-err g c =
    let passed = rw (c.empty-writer.ensures, c.places.ensures, c.steps_behind-steps.ensures) at c.in_ok-put_numbered.ensures.ok in
    on_err_weaker c.finish.result (λ given. cut_end _ _ _ _ _ passed given) c.finish.ensures.err
