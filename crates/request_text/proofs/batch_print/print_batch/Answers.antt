use Rattle.std.proofs.Common.{◌≡◌, ◌<◌, ◌∙◌, [], Some, length, arith, rules, ◌+◌, ap, sym, get_or, List, ℕ}
use Rattle.std.specs.Prelude.{slice_get}
use Rattle.std.proofs.lemmas.Option.{get_or_from_slice_get}
use Rattle.std.proofs.lemmas.Result.{err_from_is_err_and, on_err_weaker}
use Rattle.piece_writer.proofs.PieceLemmas.{cut_end}
use Rattle.request_text.specs.BatchText.{answer_text, batch_text, request_steps}
use Rattle.request_text.specs.declared.places.Steps.{Steps}
use Rattle.request_text.proofs.ReplyPrintLemmas.{line_cut, line_passed}
use Rattle.request_text.proofs.BatchLemmas.{batch_goes_on, batch_cut, batch_passed}
use Rattle.request_text.proofs.batch_print.print_batch.Goals as goal

pub returns-in_err-put_answer-clause-err : goal.returns-in_err-put_answer-clause-err
returns-in_err-put_answer-clause-err g c =
    let p = err_from_is_err_and c.from_residual-in_err-put_answer.result c.from_residual-in_err-put_answer.ensures.1 in
    let less : c.loop-request.request < length c.args.replies.now = omega arith in
    let at = rw (← c.as_slice-rows.ensures.value) at c.in_ok-steps.ensures.each c.loop-request.request less in
    let steps = get_or_from_slice_get c.as_slice-rows.result.now c.loop-request.request (request_steps c.args.journal.now c.loop-request.request) _ at in
    let same = ap (λ (s : Steps). answer_text (c.loop-request.request + 1) s c.index-replies-request.result) steps in
    let cut = line_cut _ _ c.loop-request.writer.piece _ _ same c.in_err-put_answer.ensures.err in
    rw p.1 (batch_cut _ _ _ c.args.journal.now c.args.replies.now c.index-replies-request.result [] c.loop-request.writer.piece c.loop-request.request less c.index-replies-request.is c.loop-request.invariant.passed cut)

pub loop-request-preserved : goal.loop-request-preserved
loop-request-preserved g c =
    let less : c.loop-request.request < length c.args.replies.now = omega arith in
    let at = rw (← c.as_slice-rows.ensures.value) at c.in_ok-steps.ensures.each c.loop-request.request less in
    let steps = get_or_from_slice_get c.as_slice-rows.result.now c.loop-request.request (request_steps c.args.journal.now c.loop-request.request) _ at in
    let same = ap (λ (s : Steps). answer_text (c.loop-request.request + 1) s c.index-replies-request.result) steps in
    let passed = line_passed _ _ c.loop-request.writer.piece c.put_answer.new.writer.piece _ _ same c.in_ok-put_answer.ensures.ok in
    record {
      within = omega arith;
      passed = batch_goes_on _ _ _ c.args.journal.now c.args.replies.now c.index-replies-request.result [] c.loop-request.writer.piece c.put_answer.new.writer.piece c.loop-request.request less c.index-replies-request.is c.loop-request.invariant.passed passed;
      quiet = c.in_ok-put_answer.ensures.quiet ∙ c.loop-request.invariant.quiet;
    }

pub returns-clause-err : goal.returns-clause-err
returns-clause-err g c = on_err_weaker c.finish.result
    (λ given. cut_end _ _ _ c.loop-request.writer.piece (batch_text c.args.journal.now c.args.replies.now) (batch_passed _ _ c.args.journal.now c.args.replies.now [] c.loop-request.writer.piece c.loop-request.request c.loop-request-test.false c.loop-request.invariant.passed) given) c.finish.ensures.err
