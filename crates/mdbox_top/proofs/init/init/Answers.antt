use Rattle.std.proofs.Common.{sym, ap, subst, ◌∙◌}
use Rattle.disk_model.specs.Disk.{IfTold}
use Rattle.model_store.specs.Settled.{IsSettled}
use Rattle.model_store.specs.Opening.{empty_inbox}
use Rattle.store_open.specs.Making.{IsMadeStore}
use Rattle.mdbox_top.specs.OpeningOutcome.{opening_outcome}
use Rattle.mdbox_top.proofs.InputLemmas.{shows_no_fault}
use Rattle.mdbox_top.proofs.InitLemmas.{made_ends, unmade_ends, opening_fault, counted_as}
use Rattle.mdbox_top.proofs.init.init.Goals as goal

pub returns-in-Ok-clause-ends : goal.returns-in-Ok-clause-ends
returns-in-Ok-clause-ends g c =
    let back = sym c.into_disk.ensures in
    made_ends _ _ _ _ _ c.show.result
    (record {
      free = c.in-Ok.ensures.free;
      settled = subst (λ d. IfTold (g.D.Disk.history d) (λ now. IsSettled now empty_inbox)) back c.in-Ok.ensures.settled;
      made = subst (λ d. IfTold (g.D.Disk.history d) (IsMadeStore c.args.id.0)) back c.in-Ok.ensures.store;
    })
    c.show.ensures.ends

pub returns-in-Ok-clause-disk_fault : goal.returns-in-Ok-clause-disk_fault
returns-in-Ok-clause-disk_fault g c = rw c.into_disk.ensures (counted_as _ _ _ _ (λ e. shows_no_fault _ _ _ c.show.result c.show.ensures.ends e) c.in-Ok.ensures.fault)

pub returns-in-Ok-clause-disk_quiet : goal.returns-in-Ok-clause-disk_quiet
returns-in-Ok-clause-disk_quiet g c = λ no. rw c.into_disk.ensures (c.in-Ok.ensures.unfailed (λ f. f))

pub returns-in-Err-clause-ends : goal.returns-in-Err-clause-ends
returns-in-Err-clause-ends g c = rw c.outcome_of.ensures (unmade_ends _ _ _ _ c.in-Err.field-0.error c.in-Err.ensures.refused c.in-Err.ensures.idle c.in-Err.ensures.unmade)

pub returns-in-Err-clause-disk_fault : goal.returns-in-Err-clause-disk_fault
returns-in-Err-clause-disk_fault g c = counted_as _ _ _ _ (λ e. opening_fault c.in-Err.field-0.error (sym c.outcome_of.ensures ∙ e)) c.in-Err.ensures.fault

pub returns-in-Err-clause-disk_quiet : goal.returns-in-Err-clause-disk_quiet
returns-in-Err-clause-disk_quiet g c = λ no. c.in-Err.ensures.unfailed (λ f. no (c.outcome_of.ensures ∙ ap opening_outcome f))
