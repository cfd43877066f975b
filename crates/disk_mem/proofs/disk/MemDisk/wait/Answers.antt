use Rattle.std.proofs.Common.{◌≡◌, ℕ, ◌<◌, ◌^◌, ap, subst, Some, rules, arith}
use Rattle.disk_model.specs.Disk.{DiskState, Unchanged, reading}
use Rattle.disk_mem.specs.Record.{ReadsAll, told_of}
use Rattle.disk_mem.specs.Numbers.{next}
use Rattle.disk_mem.proofs.HistoryLemmas.{unchanged-waits, told-now}
use Rattle.disk_mem.proofs.disk.MemDisk.wait.Goals as goal

pub invariant_of-self : goal.invariant_of-self
invariant_of-self c =
    let self = c.args.self.now in
    let F : DiskState → Type 0 = ReadsAll self.files.items in
    record { agrees = subst F (told-now self.base.items self.notes.items self.idle _) self.agrees; counts = self.counts }

pub returns-clause-state : goal.returns-clause-state
returns-clause-state c =
    let self = c.args.self.now in
    let fits : self.idle < 2 ^ 64 = search rules in
    let F : ℕ → Type 0 = λ idle. Unchanged (Some (told_of self.base.items self.notes.items self.idle)) (Some (told_of self.base.items self.notes.items idle)) in
    let e : next self.idle ≡ c.saturating_add-self.result = omega arith in
    subst F e (unchanged-waits self.base.items self.notes.items self.idle fits)

pub returns-clause-reads : goal.returns-clause-reads
returns-clause-reads c =
    let self = c.args.self.now in
    λ name. ap (λ (disk : DiskState). reading (disk name)) (told-now self.base.items self.notes.items _ self.idle)
