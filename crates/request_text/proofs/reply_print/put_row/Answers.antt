use Rattle.std.proofs.lemmas.Result.{on_ok_weaker, on_err_weaker}
use Rattle.request_text.specs.ReplyText.{row_text}
use Rattle.request_text.proofs.ReplyPrintLemmas.{pushed_passed, pushed_cut}
use Rattle.request_text.proofs.reply_print.put_row.Goals as goal

pub returns-clause-ok : goal.returns-clause-ok
returns-clause-ok g c = on_ok_weaker c.put.result (pushed_passed _ _ c.args.writer.now.piece c.push_row.new.text _ (row_text c.args.row.now) c.in_ok-push_row.ensures) c.put.ensures.ok

pub returns-clause-err : goal.returns-clause-err
returns-clause-err g c = on_err_weaker c.put.result (pushed_cut _ _ c.args.writer.now.piece c.push_row.new.text (row_text c.args.row.now) c.in_ok-push_row.ensures) c.put.ensures.err
