use Rattle.std.proofs.Common.{sym, ◌∙◌}
use Rattle.disk_model.proofs.IdleLemmas.{idle-back, idle-begins, idle-then}
use Rattle.disk_model.proofs.MomentLemmas.{if_told-all, if_told-both, if_told-map}
use Rattle.disk_model.specs.Disk.{IfTold}
use Rattle.rebuild_judge.proofs.JoinedLemmas.{is_again, is_new, not_joined}
use Rattle.rebuild_judge.proofs.OutcomeLemmas.{no_instance, ok_map, other_names}
use Rattle.rebuild_judge.proofs.ToldLemmas.{told_four, told_three}
use Rattle.rebuild_judge.specs.declared.taken.Outcome.{Outcome}
use Rattle.rebuild_judge.specs.Judges.{IsAgainOn, IsOutcomeWith}
use Rattle.rebuild_judge.proofs.judge.judge_named.Goals as goal

pub returns-then-name_otherwise-clause-outcome : goal.returns-then-name_otherwise-clause-outcome
returns-then-name_otherwise-clause-outcome g c =
    if_told-all _ (g.D.Disk.history c.args.disk.now)
    (λ disk. other_names c.args.number.0 c.args.place.now c.args.meta c.args.guid c.args.keeping.now disk (λ named are. sym c.if-name_otherwise.true ∙ (rw c.as_slice-refs.ensures at c.name_otherwise.ensures named are)))

pub returns-in_default-clause-outcome : goal.returns-in_default-clause-outcome
returns-in_default-clause-outcome g c =
    if_told-map _ _ (g.D.Disk.history c.args.disk.now) (λ disk none. no_instance c.args.number.0 c.args.place.now c.args.meta c.args.guid c.args.keeping.now disk none) (rw (c.as_slice-refs.ensures, c.in_default.is) at c.in_ok-sizes.ensures.sizes)

pub returns-in-Err-clause-outcome : goal.returns-in-Err-clause-outcome
returns-in-Err-clause-outcome g c =
    let old = g.D.Disk.history c.args.disk.now in
    if_told-both _ _ _ old (λ disk are joins. not_joined c.args.number.0 c.args.place.now c.args.meta c.args.guid c.args.keeping.now c.in-Some.sizes c.in-Err.why disk (λ named kept. sym c.if-name_otherwise.false ∙ (rw c.as_slice-refs.ensures at c.name_otherwise.ensures named kept)) are joins)
    (rw (c.as_slice-refs.ensures, c.in-Some.is) at c.in_ok-sizes.ensures.sizes) (idle-back _ old (g.D.Disk.history c.instance_sizes.new.disk) c.in_ok-sizes.ensures.idle (rw (c.as_slice.ensures, c.in-Err.is) at c.in_ok-whole.ensures.joins))

pub returns-in-Some-taken_before-clause-outcome : goal.returns-in-Some-taken_before-clause-outcome
returns-in-Some-taken_before-clause-outcome g c =
    let old = g.D.Disk.history c.args.disk.now in
    let one = g.D.Disk.history c.instance_sizes.new.disk in
    let two = g.D.Disk.history c.join.new.disk in
    ok_map (λ (given : Outcome). IfTold two (IsAgainOn c.in-Some-taken_before.earlier.now c.args.number.0 c.args.place.now c.in-Ok.whole given)) (λ (given : Outcome). IfTold old (IsOutcomeWith c.args.number.0 c.args.place.now c.args.meta c.args.guid c.args.keeping.now given)) c.judge_again.result
    (λ given told. told_four _ _ _ _ _ old
    (λ disk are joins size again. is_again c.args.number.0 c.args.place.now c.args.meta c.args.guid c.args.keeping.now c.in-Some.sizes c.in-Ok.whole c.in-Some-taken_before.earlier.now given disk (λ named kept. sym c.if-name_otherwise.false ∙ (rw c.as_slice-refs.ensures at c.name_otherwise.ensures named kept)) are joins size
    (λ files taken kept. rw c.in-Some-taken_before.is at c.taken_before.ensures files taken kept) again)
    (rw (c.as_slice-refs.ensures, c.in-Some.is) at c.in_ok-sizes.ensures.sizes) (idle-back _ old one c.in_ok-sizes.ensures.idle (rw (c.as_slice.ensures, c.in-Ok.is) at c.in_ok-whole.ensures.joins))
    (idle-back _ old one c.in_ok-sizes.ensures.idle (rw c.in-Ok.is at c.in_ok-whole.ensures.size)) (idle-back _ old two (idle-then _ _ _ c.in_ok-sizes.ensures.idle c.in_ok-whole.ensures.idle) told)) c.judge_again.ensures.again

pub returns-clause-outcome : goal.returns-clause-outcome
returns-clause-outcome g c =
    let old = g.D.Disk.history c.args.disk.now in
    let one = g.D.Disk.history c.instance_sizes.new.disk in
    told_three _ _ _ _ old
    (λ disk are joins size. is_new c.args.number.0 c.args.place.now c.args.meta c.args.guid c.args.keeping.now c.in-Some.sizes c.in-Ok.whole c.in_ok-outcome.outcome disk (λ named kept. sym c.if-name_otherwise.false ∙ (rw c.as_slice-refs.ensures at c.name_otherwise.ensures named kept)) are joins size c.requires.forms
    (λ files taken kept. rw c.in_default-taken_before.is at c.taken_before.ensures files taken kept) (rw c.as_slice-2.ensures at c.in_ok-outcome.ensures.admitted))
    (rw (c.as_slice-refs.ensures, c.in-Some.is) at c.in_ok-sizes.ensures.sizes) (idle-back _ old one c.in_ok-sizes.ensures.idle (rw (c.as_slice.ensures, c.in-Ok.is) at c.in_ok-whole.ensures.joins))
    (idle-back _ old one c.in_ok-sizes.ensures.idle (rw c.in-Ok.is at c.in_ok-whole.ensures.size))

pub returns-then-name_otherwise-clause-idle : goal.returns-then-name_otherwise-clause-idle
returns-then-name_otherwise-clause-idle g c = idle-begins _

pub returns-in_err-whole-clause-idle : goal.returns-in_err-whole-clause-idle
returns-in_err-whole-clause-idle g c = idle-then _ _ _ c.instance_sizes.ensures.idle c.join.ensures.idle

pub returns-in-Err-clause-idle : goal.returns-in-Err-clause-idle
returns-in-Err-clause-idle g c = idle-then _ _ _ c.instance_sizes.ensures.idle c.join.ensures.idle

pub returns-in_err-outcome-clause-idle : goal.returns-in_err-outcome-clause-idle
returns-in_err-outcome-clause-idle g c = idle-then _ _ _ c.instance_sizes.ensures.idle c.join.ensures.idle

pub returns-clause-idle : goal.returns-clause-idle
returns-clause-idle g c = idle-then _ _ _ c.instance_sizes.ensures.idle c.join.ensures.idle

pub returns-in-Some-taken_before-clause-idle : goal.returns-in-Some-taken_before-clause-idle
returns-in-Some-taken_before-clause-idle g c = idle-then _ _ _ c.instance_sizes.ensures.idle (idle-then _ _ _ c.join.ensures.idle c.judge_again.ensures.idle)
