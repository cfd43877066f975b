use Rattle.std.proofs.Common.{arith}
use Rattle.dbox_metadata.proofs.RefLemmas.{after_start, after_count, after_options, names_of}
use Rattle.dbox_metadata.proofs.reference.reference_at.Goals as goal

pub returns-in_err-count-clause-none : goal.returns-in_err-count-clause-none
returns-in_err-count-clause-none c =
    rw c.from_residual-in_err-count.ensures (λ ref behind fits e.
    let one = after_start c.args.text.now c.in_ok-start.rest.now behind c.in_ok-start.start ref c.in_ok-start.ensures.some.0 fits c.in_ok-start.ensures.some.1 e in
    c.in_err-count.ensures.none ref.count _ fits.count one)

pub returns-then-count-eq0-clause-none : goal.returns-then-count-eq0-clause-none
returns-then-count-eq0-clause-none c = λ ref behind fits e.
    let one = after_start c.args.text.now c.in_ok-start.rest.now behind c.in_ok-start.start ref c.in_ok-start.ensures.some.0 fits c.in_ok-start.ensures.some.1 e in
    let two = after_count c.in_ok-start.rest.now c.in_ok-count.rest.now behind c.in_ok-count.count ref c.in_ok-count.ensures.some.0 fits c.in_ok-count.ensures.some.1 one in
    omega (arith, two.0, fits.some, c.if-count-eq0.true)

pub returns-in_err-form-clause-none : goal.returns-in_err-form-clause-none
returns-in_err-form-clause-none c =
    rw c.from_residual-in_err-form.ensures (λ ref behind fits e.
    let one = after_start c.args.text.now c.in_ok-start.rest.now behind c.in_ok-start.start ref c.in_ok-start.ensures.some.0 fits c.in_ok-start.ensures.some.1 e in
    let two = after_count c.in_ok-start.rest.now c.in_ok-count.rest.now behind c.in_ok-count.count ref c.in_ok-count.ensures.some.0 fits c.in_ok-count.ensures.some.1 one in
    c.in_err-form.ensures.none ref.form _ fits.form two.1)

pub returns-in_err-hash-clause-none : goal.returns-in_err-hash-clause-none
returns-in_err-hash-clause-none c =
    rw c.from_residual-in_err-hash.ensures (λ ref behind fits e.
    let one = after_start c.args.text.now c.in_ok-start.rest.now behind c.in_ok-start.start ref c.in_ok-start.ensures.some.0 fits c.in_ok-start.ensures.some.1 e in
    let two = after_count c.in_ok-start.rest.now c.in_ok-count.rest.now behind c.in_ok-count.count ref c.in_ok-count.ensures.some.0 fits c.in_ok-count.ensures.some.1 one in
    let three = after_options c.in_ok-count.rest.now c.in_ok-form.rest.now behind c.in_ok-form.form ref c.in_ok-form.ensures.some.0 fits c.in_ok-form.ensures.some.1 two.1 in
    c.in_err-hash.ensures.none ref.hash ref.id behind (names_of ref fits) three)
