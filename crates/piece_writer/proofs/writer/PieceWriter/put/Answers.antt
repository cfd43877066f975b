use Rattle.std.proofs.lemmas.Result.{err_from_is_err_and}
use Rattle.piece_writer.proofs.PieceLemmas.{cut_first, cut_second, passed_both}
use Rattle.piece_writer.proofs.writer.PieceWriter.put.Goals as goal

pub returns-in_err-write_text-clause-err : goal.returns-in_err-write_text-clause-err
returns-in_err-write_text-clause-err g c =
    let p = err_from_is_err_and c.from_residual-in_err-write_text.result c.from_residual-in_err-write_text.ensures.1 in
    let given = rw c.as_slice.ensures at c.in_err-write_text.ensures.err in
    rw p.1 (cut_first _ _ c.args.self.now.piece c.args.text.now given)

pub returns-in_err-write_text-2-clause-err : goal.returns-in_err-write_text-2-clause-err
returns-in_err-write_text-2-clause-err g c =
    let p = err_from_is_err_and c.from_residual-in_err-write_text-2.result c.from_residual-in_err-write_text-2.ensures.1 in
    let piece = rw c.as_slice.ensures at c.in_ok-write_text.ensures.ok in
    rw p.1 (cut_second _ _ _ c.args.self.now.piece c.args.text.now piece c.in_err-write_text-2.ensures.err)

pub returns-clause-ok : goal.returns-clause-ok
returns-clause-ok g c =
    let piece = rw c.as_slice.ensures at c.in_ok-write_text.ensures.ok in
    rw c.clear.ensures (passed_both _ _ _ c.args.self.now.piece c.args.text.now piece c.in_ok-write_text-2.ensures.ok)
