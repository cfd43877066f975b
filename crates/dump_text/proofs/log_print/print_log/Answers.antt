use Rattle.std.proofs.Common.{[], ◌∙◌, rules}
use Rattle.std.proofs.lemmas.Result.{err_from_is_err_and, on_ok_weaker, on_err_weaker}
use Rattle.piece_writer.proofs.PieceLemmas.{cut_end, cut_nothing, passed_end}
use Rattle.dump_text.proofs.LogPrintLemmas.{printed-none, printed-more, printed-cut, printed-stops, end_cut, all_passed}
use Rattle.dump_text.proofs.log_print.print_log.Goals as goal

pub returns-in_err-head_text-clause-err : goal.returns-in_err-head_text-clause-err
returns-in_err-head_text-clause-err g c =
    let p = err_from_is_err_and c.from_residual.result c.from_residual.ensures.1 in
    rw p.1 (λ entries is. cut_nothing _ [] _)

pub loop-place-init : goal.loop-place-init
loop-place-init g c = record {
  printed = printed-none c.args.text.now c.entries-entries.result.octets.now c.entries-entries.result.gate _ _ c.requires.0 c.requires.1 (c.entries-entries.ensures.entries c.requires.0 c.requires.1) c.entries-entries.ensures.first c.in_ok-head_text.ensures;
  quiet = search rules;
}

pub loop-place-preserved : goal.loop-place-preserved
loop-place-preserved g c = record {
  printed = printed-more c.args.text.now _ _ _ _ _ _ _ _ _ c.in-Some.place c.in-Some.entry c.loop-place.invariant.printed c.in-Some.ensures.next c.in_ok-put_entry.ensures.ok;
  quiet = c.in_ok-put_entry.ensures.quiet ∙ c.loop-place.invariant.quiet;
}

pub returns-in_err-put_entry-clause-err : goal.returns-in_err-put_entry-clause-err
returns-in_err-put_entry-clause-err g c =
    let p = err_from_is_err_and c.from_residual-in_err-put_entry.result c.from_residual-in_err-put_entry.ensures.1 in
    rw p.1 (λ entries is. printed-cut c.args.text.now _ _ _ _ _ _ _ _ c.in-Some.place c.in-Some.entry c.loop-place.invariant.printed c.in-Some.ensures.next c.in_err-put_entry.ensures.err entries is)

pub returns-in_err-end-clause-err : goal.returns-in_err-end-clause-err
returns-in_err-end-clause-err g c =
    let p = err_from_is_err_and c.from_residual-in_err-end.result c.from_residual-in_err-end.ensures.1 in
    rw p.1 (λ entries is. printed-stops c.args.text.now _ _ _ _ _ c.loop-place.invariant.printed entries is)

pub returns-in_err-put-clause-err : goal.returns-in_err-put-clause-err
returns-in_err-put-clause-err g c =
    let p = err_from_is_err_and c.from_residual-in_err-put.result c.from_residual-in_err-put.ensures.1 in
    let cut = rw (c.as_slice.ensures, c.in_ok-end.ensures) at c.in_err-put.ensures.err in
    rw p.1 (λ entries is. end_cut c.args.text.now _ c.next_entry.new.self.octets.now _ c.next_entry.new.self.gate _ _ _ _ c.loop-place.invariant.printed c.in_default.ensures.next cut entries is)

pub returns-clause-ok : goal.returns-clause-ok
returns-clause-ok g c =
    let end = rw (c.as_slice.ensures, c.in_ok-end.ensures) at c.in_ok-put.ensures.ok in
    on_ok_weaker c.finish.result (λ given entries is. passed_end _ _ _ c.put.new.self.piece _ (all_passed c.args.text.now _ c.next_entry.new.self.octets.now _ c.next_entry.new.self.gate _ _ _ _ _ c.loop-place.invariant.printed c.in_default.ensures.next end entries is) given) c.finish.ensures.ok

pub returns-clause-err : goal.returns-clause-err
returns-clause-err g c =
    let end = rw (c.as_slice.ensures, c.in_ok-end.ensures) at c.in_ok-put.ensures.ok in
    on_err_weaker c.finish.result (λ given entries is. cut_end _ _ _ c.put.new.self.piece _ (all_passed c.args.text.now _ c.next_entry.new.self.octets.now _ c.next_entry.new.self.gate _ _ _ _ _ c.loop-place.invariant.printed c.in_default.ensures.next end entries is) given) c.finish.ensures.err
