use Rattle.std.proofs.Common.{◌≡◌, length, Some, OnOk, OnErr, ap, subst, refl}
use Rattle.disk_model.specs.Disk.{History, AfterFailed, after, change, written, half_written}
use Rattle.disk_mem.specs.Mem.{told}
use Rattle.disk_mem.proofs.StepLemmas.{on_ok, on_err}
use Rattle.disk_mem.proofs.FailingLemmas.{write_state, write_failed, write_starved, on_err_all}
use Rattle.disk_mem.proofs.disk.MemDisk.attempt_write.Goals as goal

pub returns-then-is_write_due-clause-failed : goal.returns-then-is_write_due-clause-failed
returns-then-is_write_due-clause-failed c =
    let same : told c.is_write_due.new.self ≡ told c.args.self.now = ap told c.is_write_due.ensures.plan in
    let F : History → Type 0 = λ h. AfterFailed (change c.args.name (half_written c.args.offset (length c.args.from.now))) (Some h) (Some (told c.fail_half.new.self)) in
    on_err_all c.fail_half.result
    (subst F same (write_failed c.args.name c.args.offset _ _ (told c.is_write_due.new.self) (told c.fail_half.new.self) refl c.fail_half.ensures.state))

pub returns-in-Ok-clause-state : goal.returns-in-Ok-clause-state
returns-in-Ok-clause-state c =
    let same : told c.is_write_due.new.self ≡ told c.args.self.now = ap told c.is_write_due.ensures.plan in
    let F : History → Type 0 = λ h. OnOk c.change.result (Some (told c.change.new.self) ≡ after (change c.args.name (written c.args.offset c.args.from.now)) (Some h)) in
    subst F same
    (on_ok c.change.result (write_state c.args.name c.args.offset c.in-Ok.text _ (told c.is_write_due.new.self) (told c.change.new.self) c.in-Ok.ensures) c.change.ensures.ok)

pub returns-in-Ok-clause-failed : goal.returns-in-Ok-clause-failed
returns-in-Ok-clause-failed c =
    let same : told c.is_write_due.new.self ≡ told c.args.self.now = ap told c.is_write_due.ensures.plan in
    let F : History → Type 0 = λ h. OnErr c.change.result (AfterFailed (change c.args.name (half_written c.args.offset (length c.args.from.now))) (Some h) (Some (told c.change.new.self))) in
    subst F same
    (on_err c.change.result (write_starved c.args.name c.args.offset _ (told c.is_write_due.new.self) (told c.change.new.self)) c.change.ensures.err)

pub returns-in-Err-clause-failed : goal.returns-in-Err-clause-failed
returns-in-Err-clause-failed c =
    let same : told c.is_write_due.new.self ≡ told c.args.self.now = ap told c.is_write_due.ensures.plan in
    let F : History → Type 0 = λ h. AfterFailed (change c.args.name (half_written c.args.offset (length c.args.from.now))) (Some h) (Some (told c.starve.new.self)) in
    on_err_all c.starve.result
    (subst F same (write_starved c.args.name c.args.offset _ (told c.is_write_due.new.self) (told c.starve.new.self) c.starve.ensures.state))
