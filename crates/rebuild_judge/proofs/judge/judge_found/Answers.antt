use Rattle.disk_model.proofs.IdleLemmas.{idle-begins}
use Rattle.disk_model.proofs.MomentLemmas.{if_told-all, if_told-both}
use Rattle.rebuild_judge.proofs.NextLemmas.{at_place, next_message, next_unread}
use Rattle.rebuild_files.specs.declared.found.FoundAt.{FoundAt}
use Rattle.rebuild_files.specs.declared.found.FoundPlace.TheVariants as kind
use Rattle.rebuild_judge.specs.Judges.{JudgesNext}
use Rattle.rebuild_judge.proofs.judge.judge_found.Goals as goal

pub returns-in_ok-keep-in-Message-clause-next : goal.returns-in_ok-keep-in-Message-clause-next
returns-in_ok-keep-in-Message-clause-next g c =
    if_told-both _ _ _ (g.D.Disk.history c.args.disk.now)
    (λ disk p q. at_place (λ (at : FoundAt). JudgesNext c.args.store.0 at c.args.keeping.now c.keep.new.keeping c.args.skipped.now c.keep.new.skipped c.args.file c.max.result disk) c.args.found (kind.Message c.in-Message.place) c.in-Message.is
    (next_message c.args.store.0 c.args.found.file c.in-Message.place c.in_ok-outcome-in-Message.outcome c.args.keeping.now c.keep.new.keeping c.args.skipped.now c.keep.new.skipped c.in_ok-outcome-in-Message.named c.args.file c.max.result disk p q c.in_ok-keep-in-Message.ensures c.max.ensures)) c.in_ok-outcome-in-Message.ensures.outcome
    c.in_ok-outcome-in-Message.ensures.number

pub returns-in_ok-push-in-Unread-clause-next : goal.returns-in_ok-push-in-Unread-clause-next
returns-in_ok-push-in-Unread-clause-next g c =
    if_told-all _ (g.D.Disk.history c.args.disk.now) (λ disk. at_place (λ (at : FoundAt). JudgesNext c.args.store.0 at c.args.keeping.now c.args.keeping.now c.args.skipped.now c.push.new.self c.args.file c.args.file disk) c.args.found (kind.Unread c.in-Unread.offset c.in-Unread.why) c.in-Unread.is
    (next_unread c.args.store.0 c.args.found.file c.in-Unread.offset c.in-Unread.why c.args.keeping.now c.args.skipped.now c.push.new.self c.args.file disk c.in_ok-push-in-Unread.ensures.ok))

pub returns-in_err-push-in-Unread-clause-idle : goal.returns-in_err-push-in-Unread-clause-idle
returns-in_err-push-in-Unread-clause-idle g c = idle-begins _

pub returns-in_ok-push-in-Unread-clause-idle : goal.returns-in_ok-push-in-Unread-clause-idle
returns-in_ok-push-in-Unread-clause-idle g c = idle-begins _
