use Rattle.disk_model.proofs.IdleLemmas.{idle-back, idle-then}
use Rattle.disk_model.proofs.MomentLemmas.{if_told-both, if_told-map}
use Rattle.rebuild_judge.proofs.OutcomeLemmas.{bad_line, guid_none, guid_number, has_guid, no_guid, no_number}
use Rattle.rebuild_judge.proofs.judge.judge.Goals as goal

pub returns-in_default-clause-outcome : goal.returns-in_default-clause-outcome
returns-in_default-clause-outcome g c = if_told-map _ _ (g.D.Disk.history c.args.disk.now) (λ disk say. bad_line c.args.number.0 c.args.place.now c.args.keeping.now disk say) (rw c.in_default.is at c.in_ok-meta.ensures.say)

pub returns-in_default-clause-number : goal.returns-in_default-clause-number
returns-in_default-clause-number g c = if_told-map _ _ (g.D.Disk.history c.args.disk.now) (λ disk say. no_number c.args.store.0 c.args.number.0 c.args.place.now disk say) (rw c.in_default.is at c.in_ok-meta.ensures.say)

pub returns-in_default-guid-clause-outcome : goal.returns-in_default-guid-clause-outcome
returns-in_default-guid-clause-outcome g c = if_told-map _ _ (g.D.Disk.history c.args.disk.now) (λ disk say. no_guid c.args.number.0 c.args.place.now c.in-Some.meta c.args.keeping.now disk say c.in_default-guid.is) (rw c.in-Some.is at c.in_ok-meta.ensures.say)

pub returns-in_default-guid-clause-number : goal.returns-in_default-guid-clause-number
returns-in_default-guid-clause-number g c = if_told-map _ _ (g.D.Disk.history c.args.disk.now) (λ disk say. guid_none c.args.store.0 c.args.number.0 c.args.place.now c.in-Some.meta disk say c.in_default-guid.is) (rw c.in-Some.is at c.in_ok-meta.ensures.say)

pub returns-in_err-outcome-clause-idle : goal.returns-in_err-outcome-clause-idle
returns-in_err-outcome-clause-idle g c = idle-then _ _ _ c.in_ok-meta.ensures.idle c.in_err-outcome.ensures.idle

pub returns-clause-idle : goal.returns-clause-idle
returns-clause-idle g c = idle-then _ _ _ c.in_ok-meta.ensures.idle c.in_ok-outcome.ensures.idle

pub returns-clause-outcome : goal.returns-clause-outcome
returns-clause-outcome g c =
    let old = g.D.Disk.history c.args.disk.now in
    if_told-both _ _ _ old (λ disk say with_this. has_guid c.args.number.0 c.args.place.now c.in-Some.meta c.in-Some-guid.guid c.args.keeping.now c.in_ok-outcome.outcome disk say c.in-Some-guid.is with_this) (rw c.in-Some.is at c.in_ok-meta.ensures.say)
    (idle-back _ old (g.D.Disk.history c.read_lines.new.disk) c.in_ok-meta.ensures.idle c.in_ok-outcome.ensures.outcome)

pub returns-clause-number : goal.returns-clause-number
returns-clause-number g c =
    if_told-map _ _ (g.D.Disk.history c.args.disk.now) (λ disk say. guid_number c.args.store.0 c.args.number.0 c.args.place.now c.in-Some.meta c.in-Some-guid.guid c.file_named.result disk say c.in-Some-guid.is c.file_named.ensures) (rw c.in-Some.is at c.in_ok-meta.ensures.say)
