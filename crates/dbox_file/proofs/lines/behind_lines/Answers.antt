use Rattle.std.proofs.Common.{◌≡◌, ◌++◌, ◌+◌, ◌-◌, length, arith, sym, ap, ◌∙◌}
use Rattle.model_storage.specs.StorageFile.{line_text}
use Rattle.dbox_file.proofs.RowLemmas.{found_more, flawed_more}
use Rattle.dbox_file.proofs.lines.behind_lines.Goals as goal

pub loop-length-preserved : goal.loop-length-preserved
loop-length-preserved c =
    let told = rw c.in-Some.is at c.in_ok-length.ensures.line in
    let line = told.0 in
    let rest = c.split_at.result.1.now in
    let cut : c.loop-length.rest.now ≡ line_text line.0 ++ rest = line.2 ∙ ap (λ o. line_text line.0 ++ o) (sym c.split_at.ensures.back) in
    let size : length (line_text line.0) + (c.loop-length.room - c.in-Some.length) ≡ c.loop-length.room = omega (arith, line.3, told.1) in (
      λ behind f. c.loop-length.invariant.0 behind (found_more line.0 c.loop-length.rest.now rest behind _ _ line.1 cut size f),
      λ flaw f. c.loop-length.invariant.1 flaw (flawed_more line.0 c.loop-length.rest.now rest _ _ flaw line.1 cut size f),
    )
