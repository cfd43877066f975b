use Rattle.std.proofs.lemmas.Result.{on_err_weaker}
use Rattle.piece_writer.proofs.PieceLemmas.{cut_end}
use Rattle.request_text.proofs.ReplyPrintLemmas.{from_empty}
use Rattle.rebuild_text.specs.ReportText.{report_text}
use Rattle.rebuild_text.proofs.print.print_report.Goals as goal

pub returns-clause-err : goal.returns-clause-err
returns-clause-err g c = on_err_weaker c.finish.result
    (λ given. cut_end _ _ _ c.put_report.new.writer.piece (report_text c.args.skipped.now c.args.mailboxes c.args.messages) (from_empty _ _ c.empty-writer.result.piece c.put_report.new.writer.piece (report_text c.args.skipped.now c.args.mailboxes c.args.messages) c.empty-writer.ensures c.in_ok-put_report.ensures.ok) given) c.finish.ensures.err
