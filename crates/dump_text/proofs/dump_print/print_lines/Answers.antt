use Rattle.std.proofs.Common.{refl, ◌∙◌, ◌<◌, sym, length, arith}
use Rattle.std.proofs.lemmas.Bool.{eqb-true, eqb-false}
use Rattle.std.proofs.lemmas.List.{nil_from_length}
use Rattle.std.proofs.lemmas.Result.{err_from_is_err_and}
use Rattle.piece_writer.proofs.PieceLemmas.{passed_nothing}
use Rattle.dump_text.proofs.DumpLemmas.{line_cut, line_left, no_rows}
use Rattle.dump_text.proofs.dump_print.print_lines.Goals as goal

pub loop-rest-init : goal.loop-rest-init
loop-rest-init g c = (λ lines rows. record { lines = lines; rows = rows; pass = λ held piece b. b; cut = λ held b. b }, refl)

pub returns-in_err-put_line-clause-err : goal.returns-in_err-put_line-clause-err
returns-in_err-put_line-clause-err g c =
    let p = err_from_is_err_and c.from_residual.result c.from_residual.ensures.1 in
    let empty = eqb-false (length c.loop-rest.rest.now) 0 (sym c.loop-rest-test.ensures) in
    let some : 0 < length c.loop-rest.rest.now = omega arith in
    rw p.1 (λ lines rows. let left = c.loop-rest.invariant.0 lines rows in
    left.cut _ (line_cut left.lines c.loop-rest.rest.now c.split_at.result.0.now c.split_at.result.1.now _ _ _ some left.rows
    (λ l ls r. let s = c.line_size.ensures.line l ls r in (c.split_at.ensures.front ∙ s.0, rw c.split_at.ensures.back s.1)) c.in_err-put_line.ensures.err))

pub loop-rest-preserved : goal.loop-rest-preserved
loop-rest-preserved g c = (
  λ lines rows. let left = c.loop-rest.invariant.0 lines rows in
      let empty = eqb-false (length c.loop-rest.rest.now) 0 (sym c.loop-rest-test.ensures) in
      let some : 0 < length c.loop-rest.rest.now = omega arith in
      let next = line_left left.lines c.loop-rest.rest.now c.split_at.result.0.now c.split_at.result.1.now _ _ _ _ some left.rows
      (λ l ls r. let s = c.line_size.ensures.line l ls r in (c.split_at.ensures.front ∙ s.0, rw c.split_at.ensures.back s.1)) c.in_ok-put_line.ensures.ok in
      record {
        lines = next.lines;
        rows = next.rows;
        pass = λ held piece b. left.pass held piece (next.pass held piece b);
        cut = λ held b. left.cut held (next.cut held b);
      },
  c.in_ok-put_line.ensures.quiet ∙ c.loop-rest.invariant.1,
)

pub returns-clause-ok : goal.returns-clause-ok
returns-clause-ok g c =
    λ lines rows. let left = c.loop-rest.invariant.0 lines rows in
    let empty = nil_from_length c.loop-rest.rest.now (eqb-true (length c.loop-rest.rest.now) 0 (sym c.loop-rest-test.ensures)) in
    let none = no_rows left.lines c.loop-rest.rest.now left.rows empty in
    left.pass _ _ (rw none (passed_nothing _ _))
