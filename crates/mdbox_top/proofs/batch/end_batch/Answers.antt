use Rattle.std.specs.Prelude.{map, Some}
use Rattle.std.proofs.Common.{inr}
use Rattle.request_text.specs.BatchText.{batch_text}
use Rattle.mdbox_top.proofs.BatchLemmas.{handed_back, script_fault, script_moments, script_quiet, script_rests, shown_as, unopened_script, unopened_script_rests, worked_back, worked_for}
use Rattle.mdbox_top.proofs.batch.end_batch.Goals as goal

pub returns-in-Ok-clause-moments : goal.returns-in-Ok-clause-moments
returns-in-Ok-clause-moments g c =
    let done = handed_back g.D.Disk.history g.D.Disk.faults c.args.script.now.value.requests c.in-Ok.field-0.replies c.in-Ok.field-0.journal _ _ c.in-Ok.field-0.store c.into_disk.result c.into_disk.ensures (rw c.in-Ok.is at c.requires.served) in
    script_moments c.args.script.now.value.requests done.0 c.in-Ok.field-0.journal _ _ _ _ done.2

pub returns-in-Ok-clause-rests : goal.returns-in-Ok-clause-rests
returns-in-Ok-clause-rests g c =
    let done = handed_back g.D.Disk.history g.D.Disk.faults c.args.script.now.value.requests c.in-Ok.field-0.replies c.in-Ok.field-0.journal _ _ c.in-Ok.field-0.store c.into_disk.result c.into_disk.ensures (rw c.in-Ok.is at c.requires.served) in
    let shown = shown_as c.in-Ok.field-0.journal c.as_slice.result.now c.in-Ok.field-0.replies c.as_slice-in-Ok.result.now done.0 _ _ c.print_replies-ended.result c.as_slice.ensures c.as_slice-in-Ok.ensures done.1 c.print_replies-ended.ensures.shown in
    script_rests c.args.script.now.value.requests (batch_text c.in-Ok.field-0.journal (map Some done.0)) done.0 c.in-Ok.field-0.journal _ _ _ _ _ _ c.print_replies-ended.result done.2 shown

pub returns-in-Ok-clause-disk_fault : goal.returns-in-Ok-clause-disk_fault
returns-in-Ok-clause-disk_fault g c = λ may.
    let done = handed_back g.D.Disk.history g.D.Disk.faults c.args.script.now.value.requests c.in-Ok.field-0.replies c.in-Ok.field-0.journal _ _ c.in-Ok.field-0.store c.into_disk.result c.into_disk.ensures (rw c.in-Ok.is at c.requires.served) in
    script_fault (batch_text c.in-Ok.field-0.journal (map Some done.0)) done.0 _ _ _ _ c.print_replies-ended.result (done.2.faults may) (shown_as c.in-Ok.field-0.journal c.as_slice.result.now c.in-Ok.field-0.replies c.as_slice-in-Ok.result.now done.0 _ _ c.print_replies-ended.result c.as_slice.ensures c.as_slice-in-Ok.ensures done.1 c.print_replies-ended.ensures.shown)

pub returns-in-Ok-clause-disk_quiet : goal.returns-in-Ok-clause-disk_quiet
returns-in-Ok-clause-disk_quiet g c = λ may.
    let done = handed_back g.D.Disk.history g.D.Disk.faults c.args.script.now.value.requests c.in-Ok.field-0.replies c.in-Ok.field-0.journal _ _ c.in-Ok.field-0.store c.into_disk.result c.into_disk.ensures (rw c.in-Ok.is at c.requires.served) in
    script_quiet (batch_text c.in-Ok.field-0.journal (map Some done.0)) done.0 _ _ _ _ c.print_replies-ended.result (done.2.faults may) (shown_as c.in-Ok.field-0.journal c.as_slice.result.now c.in-Ok.field-0.replies c.as_slice-in-Ok.result.now done.0 _ _ c.print_replies-ended.result c.as_slice.ensures c.as_slice-in-Ok.ensures done.1 c.print_replies-ended.ensures.shown)

pub returns-in-Err-clause-rests : goal.returns-in-Err-clause-rests
returns-in-Err-clause-rests g c = rw c.outcome_of.ensures (unopened_script_rests c.args.script.now.value.requests _ _ _ _ c.in-Err.field-0.error (rw c.in-Err.is at c.requires.refused))

pub returns-in-Ok-clause-ends : goal.returns-in-Ok-clause-ends
returns-in-Ok-clause-ends g c =
    let done = handed_back g.D.Disk.history g.D.Disk.faults c.args.script.now.value.requests c.in-Ok.field-0.replies c.in-Ok.field-0.journal _ _ c.in-Ok.field-0.store c.into_disk.result c.into_disk.ensures (rw c.in-Ok.is at c.requires.served) in
    let shown = shown_as c.in-Ok.field-0.journal c.as_slice.result.now c.in-Ok.field-0.replies c.as_slice-in-Ok.result.now done.0 _ _ c.print_replies-ended.result c.as_slice.ensures c.as_slice-in-Ok.ensures done.1 c.print_replies-ended.ensures.shown in
    let text = batch_text c.in-Ok.field-0.journal (map Some done.0) in
    inr (record {
      given = done.0;
      journal = c.in-Ok.field-0.journal;
      done = done.2;
      worked = worked_for c.args.script.now.value c.in-Ok.field-0.replies (map Some done.0) c.in-Ok.field-0.journal _ _ _ _ done.1 (worked_back g.D.Disk.history g.D.Disk.faults c.args.script.now.value c.in-Ok.field-0.replies c.in-Ok.field-0.journal _ _ c.in-Ok.field-0.store.disk c.into_disk.result c.into_disk.ensures (rw c.in-Ok.is at c.requires.worked));
      printed = shown;
      fault = λ may. script_fault text done.0 _ _ _ _ c.print_replies-ended.result (done.2.faults may) shown;
      quiet = λ may. script_quiet text done.0 _ _ _ _ c.print_replies-ended.result (done.2.faults may) shown;
    })

pub returns-in-Err-clause-ends : goal.returns-in-Err-clause-ends
returns-in-Err-clause-ends g c = rw c.outcome_of.ensures (unopened_script c.args.script.now.value _ _ _ _ _ c.in-Err.field-0.error (rw c.in-Err.is at c.requires.refused))
