use Rattle.std.proofs.Common.{◌<◌, ◌∙◌, length, arith}
use Rattle.std.proofs.lemmas.Result.{err_from_is_err_and}
use Rattle.model_found.specs.declared.reason.Reason.TheVariants as reason
use Rattle.rebuild_judge.specs.declared.taken.SkippedAt.{SkippedAt}
use Rattle.rebuild_text.proofs.PrintLemmas.{lines_go_on, lines_passed, lines_cut}
use Rattle.rebuild_text.proofs.print.put_lines.Goals as goal

-- what stands behind the last place
abbrev unknown : SkippedAt
unknown = record { file = record { 0 = 0 }; offset = 0; why = reason.BadHeader }

pub returns-in_err-put_skipped-clause-err : goal.returns-in_err-put_skipped-clause-err
returns-in_err-put_skipped-clause-err g c =
    let p = err_from_is_err_and c.from_residual.result c.from_residual.ensures.1 in
    let less : c.loop-place.place-index < length c.args.places.now = omega arith in
    rw p.1 (lines_cut _ _ _ c.args.places.now unknown c.args.writer.now.piece c.loop-place.writer.piece c.loop-place.place-index less c.loop-place.invariant.passed c.in_err-put_skipped.ensures.err)

pub loop-place-preserved : goal.loop-place-preserved
loop-place-preserved g c =
    let less : c.loop-place.place-index < length c.args.places.now = omega arith in
    record {
      passed = lines_go_on _ _ _ c.args.places.now unknown c.args.writer.now.piece c.loop-place.writer.piece _ c.loop-place.place-index less c.loop-place.invariant.passed c.in_ok-put_skipped.ensures.ok;
      quiet = c.in_ok-put_skipped.ensures.quiet ∙ c.loop-place.invariant.quiet;
    }

pub returns-clause-ok : goal.returns-clause-ok
returns-clause-ok g c = lines_passed _ _ c.args.places.now c.args.writer.now.piece c.loop-place.writer.piece c.loop-place.place-index c.loop-place-test.false c.loop-place.invariant.passed
