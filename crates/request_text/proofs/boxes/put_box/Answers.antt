use Rattle.std.proofs.lemmas.Result.{on_ok_weaker, on_err_weaker}
use Rattle.request_text.specs.BoxesText.{box_line}
use Rattle.request_text.proofs.ReplyPrintLemmas.{pushed_passed, pushed_cut}
use Rattle.request_text.proofs.boxes.put_box.Goals as goal

pub returns-clause-ok : goal.returns-clause-ok
returns-clause-ok g c = on_ok_weaker c.put.result (pushed_passed _ _ c.args.writer.now.piece c.push_box.new.text _ (box_line c.args.row.now) c.in_ok-push_box.ensures) c.put.ensures.ok

pub returns-clause-err : goal.returns-clause-err
returns-clause-err g c = on_err_weaker c.put.result (pushed_cut _ _ c.args.writer.now.piece c.push_box.new.text (box_line c.args.row.now) c.in_ok-push_box.ensures) c.put.ensures.err
