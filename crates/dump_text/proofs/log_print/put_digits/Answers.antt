use Rattle.std.proofs.Common.{◌≡◌, ◌++◌, ◌∙◌, sym, rules}
use Rattle.std.proofs.lemmas.List.{take-append-drop}
use Rattle.std.proofs.lemmas.Bool.{eqb-true}
use Rattle.std.proofs.lemmas.Result.{err_from_is_err_and}
use Rattle.dump_text.proofs.LogPrintLemmas.{encoded-none, encoded-more, encoded-cut, encoded-all, no_octets}
use Rattle.dump_text.proofs.log_print.put_digits.Goals as goal

pub loop-rest-init : goal.loop-rest-init
loop-rest-init g c = record { encoded = encoded-none _ _ _; quiet = search rules }

pub loop-rest-preserved : goal.loop-rest-preserved
loop-rest-preserved g c =
    let e : c.loop-rest.rest.now ≡ c.split_at.result.0.now ++ c.split_at.result.1.now = rw (c.split_at.ensures.front, c.split_at.ensures.back) (sym (take-append-drop _ c.loop-rest.rest.now)) in
    record {
      encoded = encoded-more c.args.octets.now c.loop-rest.rest.now c.split_at.result.0.now c.split_at.result.1.now _ _ _ _ _ _ c.loop-rest.invariant.encoded e c.in_ok-put_part.ensures.ok;
      quiet = c.in_ok-put_part.ensures.quiet ∙ c.loop-rest.invariant.quiet;
    }

pub returns-in_err-put_part-clause-err : goal.returns-in_err-put_part-clause-err
returns-in_err-put_part-clause-err g c =
    let e : c.loop-rest.rest.now ≡ c.split_at.result.0.now ++ c.split_at.result.1.now = rw (c.split_at.ensures.front, c.split_at.ensures.back) (sym (take-append-drop _ c.loop-rest.rest.now)) in
    let p = err_from_is_err_and c.from_residual.result c.from_residual.ensures.1 in
    rw p.1 (encoded-cut c.args.octets.now c.loop-rest.rest.now c.split_at.result.0.now c.split_at.result.1.now _ _ _ _ _ c.loop-rest.invariant.encoded e c.in_err-put_part.ensures.err)

pub returns-clause-ok : goal.returns-clause-ok
returns-clause-ok g c = encoded-all c.args.octets.now c.loop-rest.rest.now _ _ _ _ c.loop-rest.invariant.encoded (no_octets c.loop-rest.rest.now (eqb-true _ 0 (sym c.loop-rest-test.ensures)))
