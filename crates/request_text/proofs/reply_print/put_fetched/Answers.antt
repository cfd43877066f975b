use Rattle.std.proofs.Common.{ℕ, List, [], ◌∷◌, ◌++◌, ◌≡◌, length}
use Rattle.std.proofs.lemmas.Result.{err_from_is_err_and, on_ok_weaker, on_err_weaker}
use Rattle.piece_writer.proofs.PieceLemmas.{cut_before}
use Rattle.request_text.specs.ReplyText.{numbers_text, ok_line}
use Rattle.request_text.proofs.ReplyPrintLemmas.{line_cut, line_passed, text_cut, last_cut, last_passed}
use Rattle.request_text.proofs.reply_print.put_fetched.Goals as goal

pub returns-in_err-put_line-clause-err : goal.returns-in_err-put_line-clause-err
returns-in_err-put_line-clause-err g c =
    let p = err_from_is_err_and c.from_residual.result c.from_residual.ensures.1 in
    let front : List ℕ = ok_line (numbers_text (length c.args.message.now ∷ [])) in
    let line : c.numbers_line-line.result ≡ front = rw c.length.ensures at c.numbers_line-line.ensures in
    let cut = line_cut _ _ c.args.writer.now.piece c.numbers_line-line.result front line c.in_err-put_line.ensures.err in
    rw p.1 (cut_before _ _ c.args.writer.now.piece front (c.args.message.now ++ 10 ∷ []) cut)

pub returns-in_err-put-clause-err : goal.returns-in_err-put-clause-err
returns-in_err-put-clause-err g c =
    let p = err_from_is_err_and c.from_residual-in_err-put.result c.from_residual-in_err-put.ensures.1 in
    let front : List ℕ = ok_line (numbers_text (length c.args.message.now ∷ [])) in
    let line : c.numbers_line-line.result ≡ front = rw c.length.ensures at c.numbers_line-line.ensures in
    let passed = line_passed _ _ c.args.writer.now.piece c.put_line.new.writer.piece c.numbers_line-line.result front line c.in_ok-put_line.ensures.ok in
    rw p.1 (text_cut _ _ _ c.args.writer.now.piece c.put_line.new.writer.piece front c.args.message.now (10 ∷ []) passed (rw c.as_slice.ensures at c.in_err-put.ensures.err))

pub returns-clause-ok : goal.returns-clause-ok
returns-clause-ok g c =
    let front : List ℕ = ok_line (numbers_text (length c.args.message.now ∷ [])) in
    let line : c.numbers_line-line.result ≡ front = rw c.length.ensures at c.numbers_line-line.ensures in
    let passed = line_passed _ _ c.args.writer.now.piece c.put_line.new.writer.piece c.numbers_line-line.result front line c.in_ok-put_line.ensures.ok in
    on_ok_weaker c.put-2.result (λ given. last_passed _ _ _ _ c.args.writer.now.piece c.put_line.new.writer.piece c.put.new.self.piece c.put-2.new.self.piece front c.args.message.now (10 ∷ []) passed (rw c.as_slice.ensures at c.in_ok-put.ensures.ok) given) c.put-2.ensures.ok

pub returns-clause-err : goal.returns-clause-err
returns-clause-err g c =
    let front : List ℕ = ok_line (numbers_text (length c.args.message.now ∷ [])) in
    let line : c.numbers_line-line.result ≡ front = rw c.length.ensures at c.numbers_line-line.ensures in
    let passed = line_passed _ _ c.args.writer.now.piece c.put_line.new.writer.piece c.numbers_line-line.result front line c.in_ok-put_line.ensures.ok in
    on_err_weaker c.put-2.result (λ given. last_cut _ _ _ _ c.args.writer.now.piece c.put_line.new.writer.piece c.put.new.self.piece front c.args.message.now (10 ∷ []) passed (rw c.as_slice.ensures at c.in_ok-put.ensures.ok) given) c.put-2.ensures.err
