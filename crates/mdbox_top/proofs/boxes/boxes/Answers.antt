use Rattle.std.proofs.Common.{inl, inr, refl, sym, ◌∙◌, ap}
use Rattle.mdbox_top.specs.OpeningOutcome.{opening_outcome}
use Rattle.mdbox_top.proofs.BoxesLemmas.{unfaulted, unopened_boxes}
use Rattle.mdbox_top.proofs.InitLemmas.{counted_as, opening_fault}
use Rattle.mdbox_top.proofs.boxes.boxes.Goals as goal

pub returns-in-Ok-clause-ends : goal.returns-in-Ok-clause-ends
returns-in-Ok-clause-ends g c = rw c.into_disk.ensures (inr (record { rows = _; are = c.in-Ok.ensures.are; printed = c.show_boxes-ended.ensures.shown; unfailed = c.in-Ok.ensures.unfailed }))

pub returns-in-Ok-clause-moments : goal.returns-in-Ok-clause-moments
returns-in-Ok-clause-moments g c = rw c.into_disk.ensures c.in-Ok.ensures.moments

pub returns-in-Ok-clause-rests : goal.returns-in-Ok-clause-rests
returns-in-Ok-clause-rests g c = rw c.into_disk.ensures (λ none. (c.in-Ok.ensures.are.settled, c.in-Ok.ensures.are.carried))

pub returns-in-Ok-clause-disk_fault : goal.returns-in-Ok-clause-disk_fault
returns-in-Ok-clause-disk_fault g c = rw c.into_disk.ensures (unfaulted _ _ _ c.show_boxes-ended.result _ _ c.show_boxes-ended.ensures.shown c.in-Ok.ensures.unfailed)

pub returns-in-Ok-clause-disk_quiet : goal.returns-in-Ok-clause-disk_quiet
returns-in-Ok-clause-disk_quiet g c = rw c.into_disk.ensures (λ other. c.in-Ok.ensures.unfailed)

pub returns-in-Err-clause-ends : goal.returns-in-Err-clause-ends
returns-in-Err-clause-ends g c = inl (record { why = c.in-Err.field-0.error; ended_is = c.outcome_of.ensures; unprinted = refl; leaves = c.in-Err.ensures.refused })

pub returns-in-Err-clause-moments : goal.returns-in-Err-clause-moments
returns-in-Err-clause-moments g c =
    let u = c.in-Err.ensures.refused in
    record { safe = u.moments; stays = u.stays; closed_well = u.closed_well }

pub returns-in-Err-clause-rests : goal.returns-in-Err-clause-rests
returns-in-Err-clause-rests g c = rw c.outcome_of.ensures (unopened_boxes _ _ _ _ c.in-Err.field-0.error c.in-Err.ensures.refused)

pub returns-in-Err-clause-disk_fault : goal.returns-in-Err-clause-disk_fault
returns-in-Err-clause-disk_fault g c = counted_as _ _ _ _ (λ e. opening_fault c.in-Err.field-0.error (sym c.outcome_of.ensures ∙ e)) c.in-Err.ensures.refused.fault

pub returns-in-Err-clause-disk_quiet : goal.returns-in-Err-clause-disk_quiet
returns-in-Err-clause-disk_quiet g c = λ other. c.in-Err.ensures.refused.unfailed (λ e. other (c.outcome_of.ensures ∙ ap opening_outcome e))
