use Rattle.std.proofs.lemmas.Result.{err_from_is_err_and, on_ok_weaker, on_err_weaker}
use Rattle.piece_writer.proofs.PieceLemmas.{cut_before, cut_more, passed_more}
use Rattle.request_text.proofs.ReplyPrintLemmas.{line_cut, line_passed}
use Rattle.rebuild_text.proofs.print.put_report.Goals as goal

pub returns-in_err-put_lines-clause-err : goal.returns-in_err-put_lines-clause-err
returns-in_err-put_lines-clause-err g c =
    let p = err_from_is_err_and c.from_residual.result c.from_residual.ensures.1 in
    rw p.1 (cut_before _ _ c.args.writer.now.piece _ _ c.in_err-put_lines.ensures.err)

pub returns-clause-ok : goal.returns-clause-ok
returns-clause-ok g c =
    on_ok_weaker c.put_line.result
    (λ given. passed_more _ _ _ c.args.writer.now.piece c.put_lines.new.writer.piece c.put_line.new.writer.piece _ _ c.in_ok-put_lines.ensures.ok (line_passed _ _ c.put_lines.new.writer.piece c.put_line.new.writer.piece c.numbers_line-line.result _ c.numbers_line-line.ensures given))
    c.put_line.ensures.ok

pub returns-clause-err : goal.returns-clause-err
returns-clause-err g c =
    on_err_weaker c.put_line.result
    (λ given. cut_more _ _ _ c.args.writer.now.piece c.put_lines.new.writer.piece _ _ c.in_ok-put_lines.ensures.ok (line_cut _ _ c.put_lines.new.writer.piece c.numbers_line-line.result _ c.numbers_line-line.ensures given))
    c.put_line.ensures.err
