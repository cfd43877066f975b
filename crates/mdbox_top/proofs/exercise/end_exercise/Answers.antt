use Rattle.std.proofs.Common.{◌∙◌, ap, inr}
use Rattle.mdbox_top.specs.OpeningOutcome.{opening_outcome}
use Rattle.mdbox_top.proofs.BatchLemmas.{script_moments}
use Rattle.mdbox_top.proofs.ExerciseLemmas.{counted_from, counted_rests, stopped_told, unopened_made_rests}
use Rattle.mdbox_top.proofs.exercise.end_exercise.Goals as goal

pub print_numbers-ended-requires : goal.print_numbers-ended-requires
print_numbers-ended-requires g c =
    let served = (rw c.in-Ok.is at c.requires.served) in
    record { stopped = λ e. stopped_told served.0 c.in-Ok.field-0.replies c.as_slice.result.now c.as_slice.ensures served.1 (served.2.stopped e) }

pub returns-in-Ok-clause-ends : goal.returns-in-Ok-clause-ends
returns-in-Ok-clause-ends g c =
    inr (counted_from g.D.Disk.history g.D.Disk.faults c.args.script.now.value c.in-Ok.field-0.store c.into_disk.result c.as_slice.result.now c.in-Ok.field-0.replies c.in-Ok.field-0.journal _ _ _ _ c.print_numbers-ended.result c.requires.unread c.into_disk.ensures c.as_slice.ensures (rw c.in-Ok.is at c.requires.served) (rw c.in-Ok.is at c.requires.worked) c.print_numbers-ended.ensures.shown c.print_numbers-ended.ensures.told)

pub returns-in-Ok-clause-moments : goal.returns-in-Ok-clause-moments
returns-in-Ok-clause-moments g c =
    let d = counted_from g.D.Disk.history g.D.Disk.faults c.args.script.now.value c.in-Ok.field-0.store c.into_disk.result c.as_slice.result.now c.in-Ok.field-0.replies c.in-Ok.field-0.journal _ _ _ _ c.print_numbers-ended.result c.requires.unread c.into_disk.ensures c.as_slice.ensures (rw c.in-Ok.is at c.requires.served) (rw c.in-Ok.is at c.requires.worked) c.print_numbers-ended.ensures.shown c.print_numbers-ended.ensures.told in
    script_moments c.args.script.now.value.requests d.given d.journal _ _ _ _ d.done

pub returns-in-Ok-clause-rests : goal.returns-in-Ok-clause-rests
returns-in-Ok-clause-rests g c =
    let d = counted_from g.D.Disk.history g.D.Disk.faults c.args.script.now.value c.in-Ok.field-0.store c.into_disk.result c.as_slice.result.now c.in-Ok.field-0.replies c.in-Ok.field-0.journal _ _ _ _ c.print_numbers-ended.result c.requires.unread c.into_disk.ensures c.as_slice.ensures (rw c.in-Ok.is at c.requires.served) (rw c.in-Ok.is at c.requires.worked) c.print_numbers-ended.ensures.shown c.print_numbers-ended.ensures.told in
    counted_rests c.args.script.now.value _ _ _ _ _ _ c.print_numbers-ended.result d

pub returns-in-Ok-clause-disk_fault : goal.returns-in-Ok-clause-disk_fault
returns-in-Ok-clause-disk_fault g c =
    (counted_from g.D.Disk.history g.D.Disk.faults c.args.script.now.value c.in-Ok.field-0.store c.into_disk.result c.as_slice.result.now c.in-Ok.field-0.replies c.in-Ok.field-0.journal _ _ _ _ c.print_numbers-ended.result c.requires.unread c.into_disk.ensures c.as_slice.ensures (rw c.in-Ok.is at c.requires.served) (rw c.in-Ok.is at c.requires.worked) c.print_numbers-ended.ensures.shown c.print_numbers-ended.ensures.told).fault

pub returns-in-Ok-clause-disk_quiet : goal.returns-in-Ok-clause-disk_quiet
returns-in-Ok-clause-disk_quiet g c =
    (counted_from g.D.Disk.history g.D.Disk.faults c.args.script.now.value c.in-Ok.field-0.store c.into_disk.result c.as_slice.result.now c.in-Ok.field-0.replies c.in-Ok.field-0.journal _ _ _ _ c.print_numbers-ended.result c.requires.unread c.into_disk.ensures c.as_slice.ensures (rw c.in-Ok.is at c.requires.served) (rw c.in-Ok.is at c.requires.worked) c.print_numbers-ended.ensures.shown c.print_numbers-ended.ensures.told).quiet

pub returns-in-Err-clause-rests : goal.returns-in-Err-clause-rests
returns-in-Err-clause-rests g c = rw c.outcome_of.ensures (unopened_made_rests c.args.script.now.value.requests _ _ _ _ c.in-Err.field-0.error (rw c.in-Err.is at c.requires.refused))

pub returns-in-Err-clause-disk_quiet : goal.returns-in-Err-clause-disk_quiet
returns-in-Err-clause-disk_quiet g c = λ no. (rw c.in-Err.is at c.requires.refused).unfailed (λ e. no (c.outcome_of.ensures ∙ ap opening_outcome e))
