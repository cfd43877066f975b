use Rattle.std.proofs.Common.{sym}
use Rattle.std.proofs.lemmas.Bool.{eqb-true}
use Rattle.std.proofs.lemmas.List.{nil_from_length}
use Rattle.dbox_file.proofs.HeaderLemmas.{no_completion, more_completes, fewer_completes, told_none}
use Rattle.dbox_file.proofs.header_line.message_header_size.Goals as goal

pub returns-in_err-field-clause-none : goal.returns-in_err-field-clause-none
returns-in_err-field-clause-none c =
    rw c.from_residual.ensures (λ n q. let r = c.loop-rest.invariant.1 n q in c.in_err-field.ensures.none r.0 r.2.each r.1)

pub returns-in_err-told-clause-none : goal.returns-in_err-told-clause-none
returns-in_err-told-clause-none c =
    rw c.from_residual-in_err-told.ensures
    (λ n q. no_completion _ c.loop-rest.rest.now _ _ _ n c.in_ok-field.ensures.some (λ fields m. c.in_err-told.ensures.none fields m) (c.loop-rest.invariant.1 n q))

pub loop-rest-preserved : goal.loop-rest-preserved
loop-rest-preserved c =
    let field = c.in_ok-field.ensures.some in (
      λ n q. c.loop-rest.invariant.0 n (more_completes _ c.loop-rest.rest.now _ _ _ _ _ n field (λ fields m. (c.in_ok-told.ensures.some fields m field.fits).0) q),
      λ n q. fewer_completes _ c.loop-rest.rest.now _ _ _ _ _ n field (λ fields m. (c.in_ok-told.ensures.some fields m field.fits).1) (c.loop-rest.invariant.1 n q),
    )

pub returns-clause-none : goal.returns-clause-none
returns-clause-none c = told_none c.loop-rest.told.size c.loop-rest.told.time c.args.text.now c.loop-rest.rest.now (nil_from_length c.loop-rest.rest.now (eqb-true _ 0 (sym c.loop-rest-test.ensures))) c.loop-rest.invariant.1
