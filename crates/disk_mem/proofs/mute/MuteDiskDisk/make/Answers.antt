use Rattle.std.proofs.Common.{IsErr, IsErrOf, Result, ap, subst, sym, ◌∙◌}
use Rattle.disk_model.specs.declared.error.DiskError.{DiskError}
use Rattle.disk_model.specs.declared.error.DiskError.TheVariants.{Failed}
use Rattle.disk_mem.specs.declared.disk.MemDisk.{MemDisk}
use Rattle.disk_mem.proofs.MuteLemmas.{counts_cause}
use Rattle.disk_mem.proofs.mute.MuteDiskDisk.make.Goals as goal

pub returns-clause-cause : goal.returns-clause-cause
returns-clause-cause c =
    let failed = subst (λ (answer : Result (Unit {0}) DiskError). IsErr answer → IsErrOf answer Failed) (sym c.count.ensures.same) (λ bad. (c.make-answer.ensures.cause.failed bad).0) in
    counts_cause c.count.result c.args.self.now.inner.failed_reads c.count.new.self.inner.failed_reads c.args.self.now.failed_changes c.count.new.self.failed_changes
    (ap (λ (disk : MemDisk). disk.failed_reads) c.count.ensures.inner.0 ∙ c.make-answer.ensures.cause.reads) failed c.count.ensures.ok c.count.ensures.err c.count.ensures.no_less
