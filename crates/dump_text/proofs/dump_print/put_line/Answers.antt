use Rattle.std.proofs.lemmas.Result.{err_from_is_err_and, on_ok_weaker, on_err_weaker}
use Rattle.piece_writer.proofs.PieceLemmas.{passed_more, cut_more, cut_before}
use Rattle.dump_text.proofs.dump_print.put_line.Goals as goal

pub returns-in_err-put-clause-err : goal.returns-in_err-put-clause-err
returns-in_err-put-clause-err g c =
    let p = err_from_is_err_and c.from_residual.result c.from_residual.ensures.1 in
    rw p.1 (cut_before _ _ c.args.writer.now.piece _ c.args.line.now c.in_err-put.ensures.err)

pub returns-clause-ok : goal.returns-clause-ok
returns-clause-ok g c = on_ok_weaker c.put-2.result (passed_more _ _ _ c.args.writer.now.piece _ _ _ c.args.line.now c.in_ok-put.ensures.ok) c.put-2.ensures.ok

pub returns-clause-err : goal.returns-clause-err
returns-clause-err g c = on_err_weaker c.put-2.result (cut_more _ _ _ c.args.writer.now.piece _ _ c.args.line.now c.in_ok-put.ensures.ok) c.put-2.ensures.err
