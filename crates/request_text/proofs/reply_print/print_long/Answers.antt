use Rattle.std.proofs.lemmas.Result.{on_err_weaker}
use Rattle.piece_writer.proofs.PieceLemmas.{cut_end}
use Rattle.request_text.specs.ReplyText.{reply_text}
use Rattle.request_text.proofs.ReplyPrintLemmas.{from_empty}
use Rattle.request_text.proofs.reply_print.print_long.Goals as goal

pub returns-clause-err : goal.returns-clause-err
returns-clause-err g c = on_err_weaker c.finish.result
    (λ given. cut_end _ _ _ c.put_reply.new.writer.piece (reply_text c.args.reply.now) (from_empty _ _ c.empty-writer.result.piece c.put_reply.new.writer.piece (reply_text c.args.reply.now) c.empty-writer.ensures c.in_ok-put_reply.ensures.ok) given) c.finish.ensures.err
