use Rattle.std.proofs.Common.{ℕ, List, [], ◌∷◌, ◌++◌, ◌≡◌, ◌<◌, ◌∙◌, length, arith}
use Rattle.std.specs.Prelude.{flat_map}
use Rattle.std.proofs.lemmas.Result.{err_from_is_err_and}
use Rattle.piece_writer.proofs.PieceLemmas.{cut_before}
use Rattle.request_text.specs.ReplyText.{numbers_text, ok_line, row_text}
use Rattle.request_text.proofs.ReplyPrintLemmas.{line_cut, line_passed, rows_begin, rows_go_on, rows_cut, rows_passed}
use Rattle.request_text.proofs.reply_print.put_listing.Goals as goal

pub returns-in_err-put_line-clause-err : goal.returns-in_err-put_line-clause-err
returns-in_err-put_line-clause-err g c =
    let p = err_from_is_err_and c.from_residual.result c.from_residual.ensures.1 in
    let cut = line_cut _ _ c.args.writer.now.piece c.numbers_line-line.result (ok_line (numbers_text (length c.args.rows.now ∷ []))) c.numbers_line-line.ensures c.in_err-put_line.ensures.err in
    rw p.1 (cut_before _ _ c.args.writer.now.piece (ok_line (numbers_text (length c.args.rows.now ∷ []))) (flat_map row_text c.args.rows.now) cut)

pub loop-row-init : goal.loop-row-init
loop-row-init g c = record {
  passed = rows_begin row_text _ _ c.args.rows.now c.args.writer.now.piece c.put_line.new.writer.piece (line_passed _ _ c.args.writer.now.piece c.put_line.new.writer.piece c.numbers_line-line.result (ok_line (numbers_text (length c.args.rows.now ∷ []))) c.numbers_line-line.ensures c.in_ok-put_line.ensures.ok);
  quiet = c.in_ok-put_line.ensures.quiet;
}

pub returns-in_err-put_row-clause-err : goal.returns-in_err-put_row-clause-err
returns-in_err-put_row-clause-err g c =
    let p = err_from_is_err_and c.from_residual-in_err-put_row.result c.from_residual-in_err-put_row.ensures.1 in
    let less : c.loop-row.row-index < length c.args.rows.now = omega arith in
    rw p.1 (rows_cut row_text _ _ _ c.args.rows.now c.row-item.result c.args.writer.now.piece c.loop-row.writer.piece c.loop-row.row-index less c.row-item.is c.loop-row.invariant.passed c.in_err-put_row.ensures.err)

pub loop-row-preserved : goal.loop-row-preserved
loop-row-preserved g c =
    let less : c.loop-row.row-index < length c.args.rows.now = omega arith in
    record {
      passed = rows_go_on row_text _ _ _ c.args.rows.now c.row-item.result c.args.writer.now.piece c.loop-row.writer.piece _ c.loop-row.row-index less c.row-item.is c.loop-row.invariant.passed c.in_ok-put_row.ensures.ok;
      quiet = c.in_ok-put_row.ensures.quiet ∙ c.loop-row.invariant.quiet;
    }

pub returns-clause-ok : goal.returns-clause-ok
returns-clause-ok g c = rows_passed row_text _ _ c.args.rows.now c.args.writer.now.piece c.loop-row.writer.piece c.loop-row.row-index c.loop-row-test.false c.loop-row.invariant.passed
