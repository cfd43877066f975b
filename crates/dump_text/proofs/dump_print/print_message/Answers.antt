use Rattle.std.proofs.Common.{◌∙◌, ap, take}
use Rattle.std.proofs.lemmas.Result.{err_from_is_err_and, on_ok_weaker, on_err_weaker}
use Rattle.piece_writer.proofs.PieceLemmas.{cut_nothing}
use Rattle.dump_text.proofs.DumpLemmas.{heading_passed, heading_cut}
use Rattle.dump_text.proofs.dump_print.print_message.Goals as goal

pub returns-in_err-put_heading-clause-err : goal.returns-in_err-put_heading-clause-err
returns-in_err-put_heading-clause-err g c =
    let p = err_from_is_err_and c.from_residual.result c.from_residual.ensures.1 in
    rw p.1 (λ text s. cut_nothing _ _ text)

pub returns-clause-ok : goal.returns-clause-ok
returns-clause-ok g c =
    let lines = c.split_at-2.ensures.front ∙ ap (take _) c.split_at.ensures.back in
    on_ok_weaker c.print_lines.result (λ f text s. heading_passed c.args.file.now c.args.place text _ _ _ _ _ _ s lines c.in_ok-put_heading.ensures f) c.print_lines.ensures.ok

pub returns-clause-err : goal.returns-clause-err
returns-clause-err g c =
    let lines = c.split_at-2.ensures.front ∙ ap (take _) c.split_at.ensures.back in
    on_err_weaker c.print_lines.result (λ f text s. heading_cut c.args.file.now c.args.place text _ _ _ _ _ s lines c.in_ok-put_heading.ensures f) c.print_lines.ensures.err
