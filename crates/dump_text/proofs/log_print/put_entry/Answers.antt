use Rattle.std.proofs.lemmas.Result.{err_from_is_err_and, on_ok_weaker, on_err_weaker}
use Rattle.dump_text.proofs.LogPrintLemmas.{line-all, line-cut_digits, line-cut_end}
use Rattle.dump_text.proofs.log_print.put_entry.Goals as goal

pub returns-in_err-put_digits-clause-err : goal.returns-in_err-put_digits-clause-err
returns-in_err-put_digits-clause-err g c =
    let p = err_from_is_err_and c.from_residual-in_err-put_digits.result c.from_residual-in_err-put_digits.ensures.1 in
    rw p.1 (line-cut_digits _ _ _ _ c.args.place c.args.entry.now c.in_ok-put_place.ensures c.in_err-put_digits.ensures.err)

pub returns-clause-ok : goal.returns-clause-ok
returns-clause-ok g c = on_ok_weaker c.put.result (λ a. line-all _ _ _ _ _ _ _ c.args.place c.args.entry.now c.in_ok-put_place.ensures c.in_ok-put_digits.ensures.ok a) c.put.ensures.ok

pub returns-clause-err : goal.returns-clause-err
returns-clause-err g c = on_err_weaker c.put.result (λ a. line-cut_end _ _ _ _ _ _ c.args.place c.args.entry.now c.in_ok-put_place.ensures c.in_ok-put_digits.ensures.ok a) c.put.ensures.err
