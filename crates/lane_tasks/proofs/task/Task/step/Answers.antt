use Rattle.lane_tasks.proofs.Common.{refl, sym, ◌∙◌, ap, subst, Progress, ended_by, IsReadyTask, Task, MakeAnswers}
use Rattle.task_claims.specs.Claims.{no_claims}
use Rattle.purge_task.specs.Clause.{BeginsPurge}
use Rattle.purge_task.specs.Dropped.{TellsCounts}
use Rattle.purge_task.specs.Quiet.{KeepsQuiet}
use Rattle.lane_tasks.specs.Clause.{progress_by}
use Rattle.lane_tasks.specs.declared.task.Task.TheVariants as task
use Rattle.mail_ops.specs.Copy.{CopyAnswers}
use Rattle.mail_ops.specs.Deleting.{DeleteAnswers}
use Rattle.mail_ops.specs.Expunging.{ExpungeAnswers}
use Rattle.mail_ops.specs.Moving.{MoveAnswers}
use Rattle.mail_ops.proofs.LeavingLemmas.{same_leaves}
use Rattle.mail_fetch.proofs.StageLemmas.{halted_reply, used_halted}
use Rattle.mail_save.proofs.SaveReadyLemmas.{left_with_room}
use Rattle.lane_tasks.proofs.KeepLemmas.{copy_refused, delete_refused, expunge_refused, keeps_by, keeps_fetching, keeps_purging, keeps_resyncing, keeps_saving, keeps_still, make_refused, move_refused, ops_refused, progress_back, rename_refused}
use Rattle.lane_tasks.proofs.StepLemmas.{copy_does, counts_does, delete_does, deliver_does, expunge_does, fetch_does, logs_files, make_does, make_fewer, lists_same, make_numbered, more_ran, move_does, ops_asked, ops_does, purge_does, ready_as, rename_does, resync_does, rest_files, stays_stopped, use_room}
use Rattle.lane_tasks.proofs.task.Task.step.Goals as goal

pub returns-in-Ops-clause-does : goal.returns-in-Ops-clause-does
returns-in-Ops-clause-does g c =
    rw c.in-Ops.is
    (let r = c.step.ensures.replies in ops_does c.in-Ops.task c.step.new.self c.args.store.now c.step.new.store (g.D.Disk.history c.args.store.now.disk) (g.D.Disk.history c.step.new.store.disk) (g.D.Disk.faults c.args.store.now.disk) (g.D.Disk.faults c.step.new.store.disk) (ended_by c.step.result) (ops_asked c.in-Ops.task.request c.args.store.now c.step.new.store r.0 r.2) c.step.ensures.request c.step.ensures.keeps.rest c.step.ensures.does)

pub returns-in-Counts-clause-does : goal.returns-in-Counts-clause-does
returns-in-Counts-clause-does g c =
    rw c.in-Counts.is
    (counts_does c.in-Counts.task c.step-in-Counts.new.self c.args.store.now (g.D.Disk.history c.args.store.now.disk) (g.D.Disk.faults c.args.store.now.disk) (ended_by c.step-in-Counts.result) c.step-in-Counts.ensures.does)

pub returns-in-Make-clause-does : goal.returns-in-Make-clause-does
returns-in-Make-clause-does g c =
    rw c.in-Make.is
    (make_does c.in-Make.task c.step-in-Make.new.self c.args.store.now c.step-in-Make.new.store (g.D.Disk.history c.args.store.now.disk) (g.D.Disk.history c.step-in-Make.new.store.disk) (g.D.Disk.faults c.args.store.now.disk) (g.D.Disk.faults c.step-in-Make.new.store.disk) (ended_by c.step-in-Make.result) c.step-in-Make.ensures.request c.step-in-Make.ensures.keeps.rest c.step-in-Make.ensures.does)

pub returns-in-Copy-clause-does : goal.returns-in-Copy-clause-does
returns-in-Copy-clause-does g c =
    rw c.in-Copy.is
    (copy_does c.in-Copy.task c.step-in-Copy.new.self c.args.store.now c.step-in-Copy.new.store (g.D.Disk.history c.args.store.now.disk) (g.D.Disk.history c.step-in-Copy.new.store.disk) (g.D.Disk.faults c.args.store.now.disk) (g.D.Disk.faults c.step-in-Copy.new.store.disk) (ended_by c.step-in-Copy.result) c.step-in-Copy.ensures.request c.step-in-Copy.ensures.keeps.rest c.step-in-Copy.ensures.does)

pub returns-in-Move-clause-does : goal.returns-in-Move-clause-does
returns-in-Move-clause-does g c =
    rw c.in-Move.is
    (move_does c.in-Move.task c.step-in-Move.new.self c.args.store.now c.step-in-Move.new.store (g.D.Disk.history c.args.store.now.disk) (g.D.Disk.history c.step-in-Move.new.store.disk) (g.D.Disk.faults c.args.store.now.disk) (g.D.Disk.faults c.step-in-Move.new.store.disk) (ended_by c.step-in-Move.result) c.step-in-Move.ensures.request c.step-in-Move.ensures.keeps.rest c.step-in-Move.ensures.does)

pub returns-in-Expunge-clause-does : goal.returns-in-Expunge-clause-does
returns-in-Expunge-clause-does g c =
    rw c.in-Expunge.is
    (expunge_does c.in-Expunge.task c.step-in-Expunge.new.self c.args.store.now c.step-in-Expunge.new.store (g.D.Disk.history c.args.store.now.disk) (g.D.Disk.history c.step-in-Expunge.new.store.disk) (g.D.Disk.faults c.args.store.now.disk) (g.D.Disk.faults c.step-in-Expunge.new.store.disk) (ended_by c.step-in-Expunge.result) c.step-in-Expunge.ensures.request c.step-in-Expunge.ensures.keeps.rest c.step-in-Expunge.ensures.does)

pub returns-in-Delete-clause-does : goal.returns-in-Delete-clause-does
returns-in-Delete-clause-does g c =
    rw c.in-Delete.is
    (delete_does c.in-Delete.task c.step-in-Delete.new.self c.args.store.now c.step-in-Delete.new.store (g.D.Disk.history c.args.store.now.disk) (g.D.Disk.history c.step-in-Delete.new.store.disk) (g.D.Disk.faults c.args.store.now.disk) (g.D.Disk.faults c.step-in-Delete.new.store.disk) (ended_by c.step-in-Delete.result) c.step-in-Delete.ensures.request c.step-in-Delete.ensures.keeps.rest c.step-in-Delete.ensures.does)

pub returns-in-Rename-clause-does : goal.returns-in-Rename-clause-does
returns-in-Rename-clause-does g c =
    rw c.in-Rename.is
    (rename_does c.in-Rename.task c.step-in-Rename.new.self c.args.store.now c.step-in-Rename.new.store (g.D.Disk.history c.args.store.now.disk) (g.D.Disk.history c.step-in-Rename.new.store.disk) (g.D.Disk.faults c.args.store.now.disk) (g.D.Disk.faults c.step-in-Rename.new.store.disk) (ended_by c.step-in-Rename.result) c.step-in-Rename.ensures.request c.step-in-Rename.ensures.keeps.rest c.step-in-Rename.ensures.does)

-- ---- what it does with claims

pub returns-in-Ops-clause-claims : goal.returns-in-Ops-clause-claims
returns-in-Ops-clause-claims g c = λ runs. rw c.in-Ops.is (c.step.ensures.claims runs)

pub returns-in-Counts-clause-claims : goal.returns-in-Counts-clause-claims
returns-in-Counts-clause-claims g c = λ runs.
    let store = c.args.store.now in
    rw c.in-Counts.is
    (record { moves = λ thing. refl; leaves = same_leaves g.D.Disk.history no_claims store store refl; ended = λ given is thing. refl })

pub returns-in-Make-clause-claims : goal.returns-in-Make-clause-claims
returns-in-Make-clause-claims g c = λ runs. rw c.in-Make.is (c.step-in-Make.ensures.claims runs)

pub returns-in-Copy-clause-claims : goal.returns-in-Copy-clause-claims
returns-in-Copy-clause-claims g c = λ runs. rw c.in-Copy.is (c.step-in-Copy.ensures.claims runs)

pub returns-in-Move-clause-claims : goal.returns-in-Move-clause-claims
returns-in-Move-clause-claims g c = λ runs. rw c.in-Move.is (c.step-in-Move.ensures.claims runs)

pub returns-in-Expunge-clause-claims : goal.returns-in-Expunge-clause-claims
returns-in-Expunge-clause-claims g c = λ runs. rw c.in-Expunge.is (c.step-in-Expunge.ensures.claims runs)

pub returns-in-Delete-clause-claims : goal.returns-in-Delete-clause-claims
returns-in-Delete-clause-claims g c = λ runs. rw c.in-Delete.is (c.step-in-Delete.ensures.claims runs)

pub returns-in-Rename-clause-claims : goal.returns-in-Rename-clause-claims
returns-in-Rename-clause-claims g c = λ runs. rw c.in-Rename.is (c.step-in-Rename.ensures.claims runs)

pub returns-in-Fetch-clause-claims : goal.returns-in-Fetch-clause-claims
returns-in-Fetch-clause-claims g c = λ runs. rw c.in-Fetch.is (c.step-in-Fetch.ensures.claims runs)

pub returns-in-Deliver-clause-claims : goal.returns-in-Deliver-clause-claims
returns-in-Deliver-clause-claims g c = λ runs. rw c.in-Deliver.is (c.step-in-Deliver.ensures.claims runs)

pub returns-in-Resync-clause-claims : goal.returns-in-Resync-clause-claims
returns-in-Resync-clause-claims g c = λ runs. rw c.in-Resync.is (c.step-in-Resync.ensures.claims runs)

pub returns-in-Purge-clause-claims : goal.returns-in-Purge-clause-claims
returns-in-Purge-clause-claims g c = λ runs. rw c.in-Purge.is (c.step-in-Purge.ensures.step.claims runs)

-- ---- a store that is stopped

pub returns-in-Ops-clause-stopped : goal.returns-in-Ops-clause-stopped
returns-in-Ops-clause-stopped g c = (c.step.ensures.keeps.stopped.1, stays_stopped c.args.store.now c.step.new.store (λ stopped. (c.step.ensures.keeps.still stopped).0))

pub returns-in-Counts-clause-stopped : goal.returns-in-Counts-clause-stopped
returns-in-Counts-clause-stopped g c = (c.step-in-Counts.ensures.stopped.1, λ stopped. stopped)

pub returns-in-Make-clause-stopped : goal.returns-in-Make-clause-stopped
returns-in-Make-clause-stopped g c = (c.step-in-Make.ensures.keeps.stopped.1, stays_stopped c.args.store.now c.step-in-Make.new.store (λ stopped. (c.step-in-Make.ensures.keeps.still stopped).0))

pub returns-in-Copy-clause-stopped : goal.returns-in-Copy-clause-stopped
returns-in-Copy-clause-stopped g c = (c.step-in-Copy.ensures.keeps.stopped.1, stays_stopped c.args.store.now c.step-in-Copy.new.store (λ stopped. (c.step-in-Copy.ensures.keeps.still stopped).0))

pub returns-in-Move-clause-stopped : goal.returns-in-Move-clause-stopped
returns-in-Move-clause-stopped g c = (c.step-in-Move.ensures.keeps.stopped.1, stays_stopped c.args.store.now c.step-in-Move.new.store (λ stopped. (c.step-in-Move.ensures.keeps.still stopped).0))

pub returns-in-Expunge-clause-stopped : goal.returns-in-Expunge-clause-stopped
returns-in-Expunge-clause-stopped g c = (c.step-in-Expunge.ensures.keeps.stopped.1, stays_stopped c.args.store.now c.step-in-Expunge.new.store (λ stopped. (c.step-in-Expunge.ensures.keeps.still stopped).0))

pub returns-in-Delete-clause-stopped : goal.returns-in-Delete-clause-stopped
returns-in-Delete-clause-stopped g c = (c.step-in-Delete.ensures.keeps.stopped.1, stays_stopped c.args.store.now c.step-in-Delete.new.store (λ stopped. (c.step-in-Delete.ensures.keeps.still stopped).0))

pub returns-in-Rename-clause-stopped : goal.returns-in-Rename-clause-stopped
returns-in-Rename-clause-stopped g c = (c.step-in-Rename.ensures.keeps.stopped.1, stays_stopped c.args.store.now c.step-in-Rename.new.store (λ stopped. (c.step-in-Rename.ensures.keeps.still stopped).0))

pub returns-in-Fetch-clause-stopped : goal.returns-in-Fetch-clause-stopped
returns-in-Fetch-clause-stopped g c = (
  halted_reply c.in-Fetch.task.name c.in-Fetch.task.uid.0 c.in-Fetch.task.stage c.step-in-Fetch.new.self.stage c.step-in-Fetch.new.self.did c.step-in-Fetch.result c.args.store.now c.step-in-Fetch.new.store _ _ _ _ c.step-in-Fetch.ensures.alone,
  used_halted c.in-Fetch.task.stage c.step-in-Fetch.new.self.stage c.args.store.now c.step-in-Fetch.new.store c.step-in-Fetch.ensures.alone.same,
)

pub returns-in-Deliver-clause-stopped : goal.returns-in-Deliver-clause-stopped
returns-in-Deliver-clause-stopped g c = (c.step-in-Deliver.ensures.ended.stopped.1, stays_stopped c.args.store.now c.step-in-Deliver.new.store c.step-in-Deliver.ensures.ended.still)

pub returns-in-Resync-clause-stopped : goal.returns-in-Resync-clause-stopped
returns-in-Resync-clause-stopped g c = (c.step-in-Resync.ensures.keeps.stopped.1, stays_stopped c.args.store.now c.step-in-Resync.new.store (λ stopped. (c.step-in-Resync.ensures.keeps.still stopped).0))

pub returns-in-Purge-clause-stopped : goal.returns-in-Purge-clause-stopped
returns-in-Purge-clause-stopped g c = (c.step-in-Purge.ensures.step.stopped.1, stays_stopped c.args.store.now c.step-in-Purge.new.store (λ stopped. (c.step-in-Purge.ensures.still stopped).0))

pub returns-in-Make-clause-ready : goal.returns-in-Make-clause-ready
returns-in-Make-clause-ready g c = λ more runs.
    let step = c.step-in-Make.ensures in
    let ran = more_ran c.args.store.now c.step-in-Make.new.store c.step-in-Make.result step.keeps.stopped (λ stopped. (step.keeps.still stopped).0) more in
    (step.ready runs, make_numbered c.in-Make.task.name c.in-Make.task.stage c.step-in-Make.new.self.stage c.args.store.now c.step-in-Make.new.store _ _ c.step-in-Make.result (step.replies ran) more)

pub returns-in-Make-clause-left : goal.returns-in-Make-clause-left
returns-in-Make-clause-left g c = λ more.
    let step = c.step-in-Make.ensures in
    let ran = more_ran c.args.store.now c.step-in-Make.new.store c.step-in-Make.result step.keeps.stopped (λ stopped. (step.keeps.still stopped).0) more in
    rw c.in-Make.is
    (make_fewer c.in-Make.task.name c.in-Make.task c.step-in-Make.new.self c.args.store.now c.step-in-Make.new.store _ _ c.step-in-Make.result (step.replies ran) more (step.left more))

-- ---- a fetch

pub step-requires-in-Fetch-clause-room : goal.step-requires-in-Fetch-clause-room
step-requires-in-Fetch-clause-room g c = λ runs. use_room c.in-Fetch.task.stage c.args.store.now (c.requires.room runs)

pub returns-in-Fetch-clause-does : goal.returns-in-Fetch-clause-does
returns-in-Fetch-clause-does g c =
    rw c.in-Fetch.is
    (fetch_does c.in-Fetch.task c.step-in-Fetch.new.self c.args.store.now c.step-in-Fetch.new.store (g.D.Disk.history c.args.store.now.disk) (g.D.Disk.history c.step-in-Fetch.new.store.disk) (g.D.Disk.faults c.args.store.now.disk) (g.D.Disk.faults c.step-in-Fetch.new.store.disk) (ended_by c.step-in-Fetch.result) c.step-in-Fetch.ensures.request c.step-in-Fetch.ensures.does)

pub returns-in-Fetch-clause-ready : goal.returns-in-Fetch-clause-ready
returns-in-Fetch-clause-ready g c = λ more runs. c.step-in-Fetch.ensures.alone.ready runs

-- ---- a delivery

pub step-requires-in-Deliver : goal.step-requires-in-Deliver
step-requires-in-Deliver g c = record {
  left = λ runs.
      let t = c.in-Deliver.task in
      let ready = subst (λ (k : Task). IsReadyTask k c.args.store.now (g.D.Disk.history c.args.store.now.disk)) c.in-Deliver.is (c.requires.ready runs) in
      left_with_room t.stage t.name t.time t.size ready.0 c.args.store.now (g.D.Disk.history c.args.store.now.disk) ready.1 (c.requires.room runs).holds;
}

pub returns-in-Deliver-clause-ready : goal.returns-in-Deliver-clause-ready
returns-in-Deliver-clause-ready g c = λ more runs.
    let step = c.step-in-Deliver.ensures in
    let ran = more_ran c.args.store.now c.step-in-Deliver.new.store c.step-in-Deliver.result step.ended.stopped step.ended.still more in
    let ready = subst (λ (k : Task). IsReadyTask k c.args.store.now (g.D.Disk.history c.args.store.now.disk)) c.in-Deliver.is (c.requires.ready ran) in
    (ready.0, ready_as c.in-Deliver.task c.step-in-Deliver.new.self ready.0 c.step-in-Deliver.new.store (g.D.Disk.history c.step-in-Deliver.new.store.disk) step.request (step.ready more ready.0 ready.1))

pub returns-in-Deliver-clause-does : goal.returns-in-Deliver-clause-does
returns-in-Deliver-clause-does g c =
    rw c.in-Deliver.is
    (let r = c.step-in-Deliver.ensures.request in deliver_does c.in-Deliver.task c.step-in-Deliver.new.self c.args.store.now c.step-in-Deliver.new.store (g.D.Disk.history c.args.store.now.disk) (g.D.Disk.history c.step-in-Deliver.new.store.disk) (g.D.Disk.faults c.args.store.now.disk) (g.D.Disk.faults c.step-in-Deliver.new.store.disk) c.step-in-Deliver.result r (λ runs. (c.step-in-Deliver.ensures.claims runs).moves)
    c.step-in-Deliver.ensures.ready (λ ran. (c.step-in-Deliver.ensures.saves ran).effects) (λ octets pins behind. c.step-in-Deliver.ensures.does octets pins behind))

pub returns-in-Deliver-clause-left : goal.returns-in-Deliver-clause-left
returns-in-Deliver-clause-left g c = λ more.
    rw c.in-Deliver.is (c.step-in-Deliver.ensures.left more)

-- ---- what it keeps

pub returns-in-Ops-clause-keeps : goal.returns-in-Ops-clause-keeps
returns-in-Ops-clause-keeps g c =
    let s = c.step.ensures in
    let old = c.args.store.now in
    let new = c.step.new.store in
    let t = c.in-Ops.task in
    let asks = ops_asked t.request old new s.replies.0 s.replies.2 in
    rw c.in-Ops.is
    (keeps_by g.D.Disk.history g.D.Disk.faults (task.Ops t) (task.Ops c.step.new.self) _ _ _ old new c.step.result s.request (λ none. none) (rest_files old new s.keeps.rest) s.keeps (lists_same t.request old new asks s.same)
    (λ why begun ran e step. ops_refused t.request old new s.replies.0 c.step.result why s.replies.1 e step s.replies.2 s.same) (λ synced. synced) (s.replies.0, ap ended_by s.replies.1, s.replies.2) tt)

pub returns-in-Counts-clause-keeps : goal.returns-in-Counts-clause-keeps
returns-in-Counts-clause-keeps g c =
    let old = c.args.store.now in
    rw c.in-Counts.is
    (keeps_still g.D.Disk.history g.D.Disk.faults (task.Counts c.in-Counts.task) (task.Counts c.step-in-Counts.new.self) old old (ended_by c.step-in-Counts.result) tt (λ none. none) (λ runs synced. synced) tt tt refl)

pub returns-in-Make-clause-keeps : goal.returns-in-Make-clause-keeps
returns-in-Make-clause-keeps g c =
    let s = c.step-in-Make.ensures in
    let old = c.args.store.now in
    let new = c.step-in-Make.new.store in
    let t = c.in-Make.task in
    rw c.in-Make.is
    (keeps_by g.D.Disk.history g.D.Disk.faults (task.Make c.in-Make.task) (task.Make c.step-in-Make.new.self) _ _ _ old new c.step-in-Make.result s.request (λ none. none) (logs_files old new s.keeps.rest) s.keeps (λ reads. absurd reads)
    (λ why begun ran e step. make_refused c.in-Make.task.name c.in-Make.task.stage c.step-in-Make.new.self.stage old new (g.D.Disk.history old.disk) (g.D.Disk.history new.disk) c.step-in-Make.result why begun e step (s.replies ran)) (λ synced. synced) (λ ran. subst (λ (a : Progress). MakeAnswers t.name t.stage old new (g.D.Disk.history old.disk) (g.D.Disk.history new.disk) c.step-in-Make.new.self.stage a) (sym (progress_back c.step-in-Make.result)) (s.replies ran)) tt)

pub returns-in-Copy-clause-keeps : goal.returns-in-Copy-clause-keeps
returns-in-Copy-clause-keeps g c =
    let s = c.step-in-Copy.ensures in
    let old = c.args.store.now in
    let new = c.step-in-Copy.new.store in
    let t = c.in-Copy.task in
    rw c.in-Copy.is
    (keeps_by g.D.Disk.history g.D.Disk.faults (task.Copy c.in-Copy.task) (task.Copy c.step-in-Copy.new.self) _ _ _ old new c.step-in-Copy.result s.request (λ none. none) (rest_files old new s.keeps.rest) s.keeps (λ reads. absurd reads)
    (λ why begun ran e step. copy_refused c.in-Copy.task.name c.in-Copy.task.uid c.in-Copy.task.target c.in-Copy.task.stage c.step-in-Copy.new.self.stage old new c.step-in-Copy.result why begun e step (s.replies ran)) (λ synced. synced) (λ ran. subst (λ (a : Progress). CopyAnswers t.name t.uid t.target t.stage old new c.step-in-Copy.new.self.stage a) (sym (progress_back c.step-in-Copy.result)) (s.replies ran)) tt)

pub returns-in-Move-clause-keeps : goal.returns-in-Move-clause-keeps
returns-in-Move-clause-keeps g c =
    let s = c.step-in-Move.ensures in
    let old = c.args.store.now in
    let new = c.step-in-Move.new.store in
    let t = c.in-Move.task in
    rw c.in-Move.is
    (keeps_by g.D.Disk.history g.D.Disk.faults (task.Move c.in-Move.task) (task.Move c.step-in-Move.new.self) _ _ _ old new c.step-in-Move.result s.request (λ none. none) (rest_files old new s.keeps.rest) s.keeps (λ reads. absurd reads)
    (λ why begun ran e step. move_refused c.in-Move.task.name c.in-Move.task.uid c.in-Move.task.target c.in-Move.task.stage c.step-in-Move.new.self.stage old new c.step-in-Move.result why begun e step (s.replies ran)) (λ synced. synced) (λ ran. subst (λ (a : Progress). MoveAnswers t.name t.uid t.target t.stage old new c.step-in-Move.new.self.stage a) (sym (progress_back c.step-in-Move.result)) (s.replies ran)) tt)

pub returns-in-Expunge-clause-keeps : goal.returns-in-Expunge-clause-keeps
returns-in-Expunge-clause-keeps g c =
    let s = c.step-in-Expunge.ensures in
    let old = c.args.store.now in
    let new = c.step-in-Expunge.new.store in
    let t = c.in-Expunge.task in
    rw c.in-Expunge.is
    (keeps_by g.D.Disk.history g.D.Disk.faults (task.Expunge c.in-Expunge.task) (task.Expunge c.step-in-Expunge.new.self) _ _ _ old new c.step-in-Expunge.result s.request (λ none. none) (rest_files old new s.keeps.rest) s.keeps (λ reads. absurd reads)
    (λ why begun ran e step. expunge_refused c.in-Expunge.task.name c.in-Expunge.task.uid c.in-Expunge.task.stage c.step-in-Expunge.new.self.stage old new c.step-in-Expunge.result why begun e step (s.replies ran)) (λ synced. synced) (λ ran. subst (λ (a : Progress). ExpungeAnswers t.name t.uid t.stage old new c.step-in-Expunge.new.self.stage a) (sym (progress_back c.step-in-Expunge.result)) (s.replies ran)) tt)

pub returns-in-Delete-clause-keeps : goal.returns-in-Delete-clause-keeps
returns-in-Delete-clause-keeps g c =
    let s = c.step-in-Delete.ensures in
    let old = c.args.store.now in
    let new = c.step-in-Delete.new.store in
    let t = c.in-Delete.task in
    rw c.in-Delete.is
    (keeps_by g.D.Disk.history g.D.Disk.faults (task.Delete t) (task.Delete c.step-in-Delete.new.self) _ _ _ old new c.step-in-Delete.result s.request (λ none. none) (rest_files old new s.keeps.rest) s.keeps (λ reads. absurd reads)
    (λ why begun ran e step. delete_refused t.name t.stage c.step-in-Delete.new.self.stage old new (g.D.Disk.history old.disk) (g.D.Disk.history new.disk) c.step-in-Delete.result why begun e step (s.replies ran)) (λ synced. synced) (λ ran. subst (λ (a : Progress). DeleteAnswers t.name t.stage old new (g.D.Disk.history old.disk) (g.D.Disk.history new.disk) c.step-in-Delete.new.self.stage a) (sym (progress_back c.step-in-Delete.result)) (s.replies ran)) tt)

pub returns-in-Rename-clause-keeps : goal.returns-in-Rename-clause-keeps
returns-in-Rename-clause-keeps g c =
    let s = c.step-in-Rename.ensures in
    let old = c.args.store.now in
    let new = c.step-in-Rename.new.store in
    let t = c.in-Rename.task in
    rw c.in-Rename.is
    (keeps_by g.D.Disk.history g.D.Disk.faults (task.Rename t) (task.Rename c.step-in-Rename.new.self) _ _ _ old new c.step-in-Rename.result s.request (λ none. none) (rest_files old new s.keeps.rest) s.keeps (λ reads. absurd reads)
    (λ why begun ran e step. let r = s.replies ran in rename_refused t.name t.target old new (g.D.Disk.history old.disk) (g.D.Disk.history new.disk) r.0 c.step-in-Rename.result why r.1 e step r.2) (λ synced. synced) (λ ran. let r = s.replies ran in (r.0, ap ended_by r.1, r.2)) tt)

pub returns-in-Fetch-clause-keeps : goal.returns-in-Fetch-clause-keeps
returns-in-Fetch-clause-keeps g c =
    let old = c.args.store.now in
    let new = c.step-in-Fetch.new.store in
    let t = c.in-Fetch.task in
    rw c.in-Fetch.is
    (keeps_fetching g.D.Disk.history g.D.Disk.faults t c.step-in-Fetch.new.self old new c.step-in-Fetch.result c.step-in-Fetch.ensures.request c.step-in-Fetch.ensures.alone)

pub returns-in-Deliver-clause-keeps : goal.returns-in-Deliver-clause-keeps
returns-in-Deliver-clause-keeps g c =
    let old = c.args.store.now in
    let new = c.step-in-Deliver.new.store in
    rw c.in-Deliver.is
    (keeps_saving g.D.Disk.history g.D.Disk.faults c.in-Deliver.task c.step-in-Deliver.new.self old new c.step-in-Deliver.result c.step-in-Deliver.ensures.request c.step-in-Deliver.ensures.ended c.step-in-Deliver.ensures.saves)

-- ---- a resync

pub returns-in-Resync-clause-does : goal.returns-in-Resync-clause-does
returns-in-Resync-clause-does g c =
    rw c.in-Resync.is
    (resync_does c.in-Resync.task c.step-in-Resync.new.self c.args.store.now c.step-in-Resync.new.store (g.D.Disk.history c.args.store.now.disk) (g.D.Disk.history c.step-in-Resync.new.store.disk) (g.D.Disk.faults c.args.store.now.disk) (g.D.Disk.faults c.step-in-Resync.new.store.disk) (ended_by c.step-in-Resync.result) c.step-in-Resync.ensures.keeps.rest c.step-in-Resync.ensures.does)

pub returns-in-Resync-clause-keeps : goal.returns-in-Resync-clause-keeps
returns-in-Resync-clause-keeps g c =
    let s = c.step-in-Resync.ensures in
    let old = c.args.store.now in
    let new = c.step-in-Resync.new.store in
    rw c.in-Resync.is
    (keeps_resyncing g.D.Disk.history g.D.Disk.faults c.in-Resync.task c.step-in-Resync.new.self old new c.step-in-Resync.result s.on s.exact s.keeps)

-- ---- a purge

pub returns-in-Purge-clause-does : goal.returns-in-Purge-clause-does
returns-in-Purge-clause-does g c =
    rw c.in-Purge.is
    (purge_does c.in-Purge.task c.step-in-Purge.new.self c.args.store.now c.step-in-Purge.new.store (g.D.Disk.history c.args.store.now.disk) (g.D.Disk.history c.step-in-Purge.new.store.disk) (g.D.Disk.faults c.args.store.now.disk) (g.D.Disk.faults c.step-in-Purge.new.store.disk) (ended_by c.step-in-Purge.result) c.facts.ensures.store c.facts.ensures.files c.step-in-Purge.ensures.step.does)

pub returns-in-Purge-clause-left : goal.returns-in-Purge-clause-left
returns-in-Purge-clause-left g c = λ more.
    rw c.in-Purge.is (c.step-in-Purge.ensures.left more)

pub returns-in-Purge-clause-keeps : goal.returns-in-Purge-clause-keeps
returns-in-Purge-clause-keeps g c =
    let s = c.step-in-Purge.ensures in
    let p = s.step in
    let old = c.args.store.now in
    let new = c.step-in-Purge.new.store in
    rw c.in-Purge.is
    (keeps_purging g.D.Disk.history g.D.Disk.faults c.in-Purge.task c.step-in-Purge.new.self old new (ended_by c.step-in-Purge.result) p.grows p.mail p.reads (λ told. p.calm (λ e. told (ap ended_by e))) p.changes p.unfailed p.fell (λ stopped. (s.still stopped).0)
    (record {
      drops = s.drops;
      counts = subst (λ (a : Progress). TellsCounts c.in-Purge.task c.step-in-Purge.new.self a) (sym (progress_back c.step-in-Purge.result)) s.counts;
      quiet = subst (λ (a : Progress). KeepsQuiet c.in-Purge.task c.step-in-Purge.new.self a old new (g.D.Disk.history old.disk) (g.D.Disk.history new.disk)) (sym (progress_back c.step-in-Purge.result)) s.quiet;
      regions = p.regions;
      first = λ at. subst (λ (a : Progress). BeginsPurge a c.step-in-Purge.new.self.stage old (g.D.Disk.history old.disk) (g.D.Disk.history new.disk)) (sym (progress_back c.step-in-Purge.result)) (p.first at);
      refused = λ why e. p.refused why (sym (progress_back c.step-in-Purge.result) ∙ ap progress_by e);
    }))
