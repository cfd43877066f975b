use Rattle.std.proofs.Common.{sym, ap, ◌∙◌}
use Rattle.mdbox_top.specs.OpeningOutcome.{rebuild_outcome}
use Rattle.mdbox_top.proofs.InitLemmas.{counted_as}
use Rattle.mdbox_top.proofs.BackLemmas.{between_still, fault_after, leaves_still, read_ends, whole_still, untold}
use Rattle.mdbox_top.proofs.RebuildLemmas.{unrebuilt_ends, fault_of_rebuild}
use Rattle.store_rebuild.specs.Rebuilding.{IsRebuilt}
use Rattle.store_rebuild.specs.Writing.{MailReadsSame}
use Rattle.mdbox_top.proofs.rebuild.rebuild.Goals as goal

pub returns-in-Ok-clause-ends : goal.returns-in-Ok-clause-ends
returns-in-Ok-clause-ends g c =
    let idle = c.tell_rebuilt-ended.ensures.idle in
    read_ends _ _ _ _ _ _ c.tell_rebuilt-ended.result (record { lost = c.in-Ok.ensures.lost; rebuilt = between_still (IsRebuilt c.args.id.0 c.in-Ok.field-0.report) _ _ _ c.in-Ok.ensures.rebuilt idle; mail = between_still MailReadsSame _ _ _ c.in-Ok.ensures.mail idle }) c.tell_rebuilt-ended.ensures.ends

pub returns-in-Ok-clause-moments : goal.returns-in-Ok-clause-moments
returns-in-Ok-clause-moments g c = record { each = leaves_still _ _ _ c.in-Ok.ensures.any_moment c.tell_rebuilt-ended.ensures.idle; untouched = whole_still _ _ c.in-Ok.ensures.lost }

pub returns-in-Ok-clause-disk_fault : goal.returns-in-Ok-clause-disk_fault
returns-in-Ok-clause-disk_fault g c = fault_after _ _ _ _ (c.in-Ok.ensures.unfailed (λ f. f)) c.tell_rebuilt-ended.ensures.disk_fault

pub returns-in-Ok-clause-disk_quiet : goal.returns-in-Ok-clause-disk_quiet
returns-in-Ok-clause-disk_quiet g c = λ no. c.tell_rebuilt-ended.ensures.disk_quiet no ∙ c.in-Ok.ensures.unfailed (λ f. f)

pub returns-in-Err-clause-noted : goal.returns-in-Err-clause-noted
returns-in-Err-clause-noted g c = rw c.end_of_rebuild.ensures (untold c.in-Err.field-0.error _ _ _)

pub returns-in-Err-clause-ends : goal.returns-in-Err-clause-ends
returns-in-Err-clause-ends g c = rw c.end_of_rebuild.ensures (unrebuilt_ends _ _ _ _ c.in-Err.field-0.error c.in-Err.ensures.refused c.in-Err.ensures.idle)

pub returns-in-Err-clause-disk_fault : goal.returns-in-Err-clause-disk_fault
returns-in-Err-clause-disk_fault g c = counted_as _ _ _ _ (λ e. fault_of_rebuild c.in-Err.field-0.error (sym c.end_of_rebuild.ensures ∙ e)) c.in-Err.ensures.fault

pub returns-in-Err-clause-disk_quiet : goal.returns-in-Err-clause-disk_quiet
returns-in-Err-clause-disk_quiet g c = λ no. c.in-Err.ensures.unfailed (λ f. no (c.end_of_rebuild.ensures ∙ ap rebuild_outcome f))
