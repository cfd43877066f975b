use Rattle.std.proofs.Common.{◌≡◌, true, false, refl}
use Rattle.disk_model.proofs.IdleLemmas.{idle-back, idle-begins, idle-then}
use Rattle.disk_model.proofs.MomentLemmas.{if_told-both, if_told-map}
use Rattle.rebuild_judge.proofs.BeforeLemmas.{both_read, first_gone, second_gone}
use Rattle.rebuild_judge.proofs.judge.judge_again.Goals as goal

pub returns-in_default-clause-again : goal.returns-in_default-clause-again
returns-in_default-clause-again g c =
    if_told-map _ _ (g.D.Disk.history c.args.disk.now) (λ disk none. first_gone c.args.earlier.now c.args.number.0 c.args.place.now c.args.whole _ disk none) (rw (c.from-2.ensures, c.from-size.ensures, c.in_default.is) at c.in_ok-first.ensures.found)

pub returns-in_default-2-clause-again : goal.returns-in_default-2-clause-again
returns-in_default-2-clause-again g c =
    let old = g.D.Disk.history c.args.disk.now in
    if_told-map _ _ old (λ disk none. second_gone c.args.earlier.now c.args.number.0 c.args.place.now c.args.whole _ _ disk c.saturating_sub-size.ensures none) (idle-back _ old (g.D.Disk.history c.whole_in.new.disk) c.in_ok-first.ensures.idle (rw c.in_default-2.is at c.in_ok-second.ensures.found))

pub returns-then-from-whole-clause-idle : goal.returns-then-from-whole-clause-idle
returns-then-from-whole-clause-idle g c = idle-begins _

pub returns-in_err-second-clause-idle : goal.returns-in_err-second-clause-idle
returns-in_err-second-clause-idle g c = idle-then _ _ _ c.whole_in.ensures.idle c.whole_in-2.ensures.idle

pub returns-in_default-2-clause-idle : goal.returns-in_default-2-clause-idle
returns-in_default-2-clause-idle g c = idle-then _ _ _ c.whole_in.ensures.idle c.whole_in-2.ensures.idle

pub returns-then-eq-clause-idle : goal.returns-then-eq-clause-idle
returns-then-eq-clause-idle g c = idle-then _ _ _ c.whole_in.ensures.idle c.whole_in-2.ensures.idle

pub returns-clause-idle : goal.returns-clause-idle
returns-clause-idle g c = idle-then _ _ _ c.whole_in.ensures.idle c.whole_in-2.ensures.idle

pub returns-then-eq-clause-again : goal.returns-then-eq-clause-again
returns-then-eq-clause-again g c =
    let old = g.D.Disk.history c.args.disk.now in
    let is : c.eq.result ≡ true = c.if-eq.true in
    if_told-both _ _ _ old
    (λ disk one two. both_read c.args.earlier.now c.args.number.0 c.args.place.now c.args.whole c.saturating_sub-size.result c.in-Some.first c.in-Some-2.second c.eq.result _ disk c.saturating_sub-size.ensures one two (rw (c.as_slice.ensures, c.as_slice-2.ensures) at c.eq.ensures) (rw is refl))
    (rw (c.from-2.ensures, c.from-size.ensures, c.in-Some.is) at c.in_ok-first.ensures.found) (idle-back _ old (g.D.Disk.history c.whole_in.new.disk) c.in_ok-first.ensures.idle (rw c.in-Some-2.is at c.in_ok-second.ensures.found))

pub returns-clause-again : goal.returns-clause-again
returns-clause-again g c =
    let old = g.D.Disk.history c.args.disk.now in
    let is : c.eq.result ≡ false = c.if-eq.false in
    if_told-both _ _ _ old
    (λ disk one two. both_read c.args.earlier.now c.args.number.0 c.args.place.now c.args.whole c.saturating_sub-size.result c.in-Some.first c.in-Some-2.second c.eq.result _ disk c.saturating_sub-size.ensures one two (rw (c.as_slice.ensures, c.as_slice-2.ensures) at c.eq.ensures) (rw is refl))
    (rw (c.from-2.ensures, c.from-size.ensures, c.in-Some.is) at c.in_ok-first.ensures.found) (idle-back _ old (g.D.Disk.history c.whole_in.new.disk) c.in_ok-first.ensures.idle (rw c.in-Some-2.is at c.in_ok-second.ensures.found))
