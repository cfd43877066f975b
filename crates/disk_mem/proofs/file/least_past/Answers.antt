use Rattle.std.proofs.Common.{refl}
use Rattle.std.proofs.lemmas.Option.{slice_get_read}
use Rattle.disk_model.specs.contracts.name.FileNameOrd.TheImpl.{ghosts}
use Rattle.disk_model.specs.contracts.name.FileNameOrd.TheImpl.Laws.{total-law}
use Rattle.disk_mem.proofs.ReadingLemmas.{best_none, best_more, best_all}
use Rattle.disk_mem.proofs.file.least_past.Goals as goal

pub loop-file-init : goal.loop-file-init
loop-file-init c = λ disk reads. best_none ghosts.cmp disk c.args.files.now c.args.after

pub loop-file-preserved : goal.loop-file-preserved
loop-file-preserved c = λ disk reads.
    best_more ghosts.cmp disk c.args.files.now c.args.after c.loop-file.file-index c.loop-file.best c.file-item.result c.nearer-best.result total-law
    (slice_get_read c.args.files.now _ _ _ refl c.loop-file-test.true c.file-item.is) (c.loop-file.invariant disk reads) (c.nearer-best.ensures disk reads)

pub returns : goal.returns
returns c = λ disk reads.
    let is = c.loop-file.invariant disk reads in
    (is.past, best_all ghosts.cmp disk c.args.files.now c.args.after c.loop-file.file-index c.loop-file.best c.loop-file-test.false reads is)
