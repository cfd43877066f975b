use Rattle.std.proofs.Common.{refl, ◌∙◌, ap, inl, inr}
use Rattle.session.specs.OneRequest.{extent_then}
use Rattle.session.proofs.OneLemmas.{finds_end, outcome_kept}
use Rattle.session.proofs.next.serve_next.Goals as goal

pub returns-in-Ok-clause-ok : goal.returns-in-Ok-clause-ok
returns-in-Ok-clause-ok g c =
    let taken = rw c.in-Ok-Some.field-0-is at c.in-Ok-Some.ensures.taken in
    let done = c.in-Ok.ensures.ok in
    record { asked = c.in-Ok-Some.asked; fits = taken.0; taken = taken.1; given = done.0; served = done.1; runs = done.2; further = c.further.ensures ∙ ap (extent_then c.args.at) taken.2 }

pub returns-in-Err-clause-err : goal.returns-in-Err-clause-err
returns-in-Err-clause-err g c =
    let taken = rw c.in-Ok-Some.field-0-is at c.in-Ok-Some.ensures.taken in
    inr (record { asked = c.in-Ok-Some.asked; fits = taken.0; taken = taken.1; ends = c.in-Err.ensures.err })

pub returns-in-Ok-None-clause-err : goal.returns-in-Ok-None-clause-err
returns-in-Ok-None-clause-err g c =
    let taken = rw c.in-Ok-None.field-0-is at c.in-Ok-None.ensures.taken in
    inl ((refl, refl), rw (c.outcome_of_replies.ensures, outcome_kept c.args.world.now.scripted c.args.world.now.replies c.replies.result.now c.replies.ensures) (finds_end c.args.world.now _ _ c.args.at taken.0 taken.1))

pub returns-in-Err-Bad-clause-err : goal.returns-in-Err-Bad-clause-err
returns-in-Err-Bad-clause-err g c =
    let untaken = rw c.in-Err-Bad.field-0-is at c.in-Err-Bad.ensures.untaken in
    inl ((refl, refl), rw (c.refused_at.ensures, c.in-Err-Bad.field-0-is) (refl, refl, untaken.0))

pub returns-in-Err-Fault-clause-err : goal.returns-in-Err-Fault-clause-err
returns-in-Err-Fault-clause-err g c = inl ((refl, refl), tt)

pub returns-in-Err-NoMemory-clause-err : goal.returns-in-Err-NoMemory-clause-err
returns-in-Err-NoMemory-clause-err g c = inl ((refl, refl), tt)
