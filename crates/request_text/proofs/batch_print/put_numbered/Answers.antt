use Rattle.std.proofs.lemmas.Result.{on_err_weaker}
use Rattle.request_text.specs.BatchText.{front_text}
use Rattle.request_text.specs.ReplyText.{reply_text}
use Rattle.request_text.proofs.ReplyPrintLemmas.{after_front}
use Rattle.request_text.proofs.batch_print.put_numbered.Goals as goal

pub returns-clause-err : goal.returns-clause-err
returns-clause-err g c =
    on_err_weaker c.put_reply.result (after_front _ _ c.args.writer.now.piece c.push_front.new.text (front_text c.args.number c.args.places) (reply_text c.args.given.now) c.in_ok-push_front.ensures) c.put_reply.ensures.err
