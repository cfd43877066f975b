use Rattle.store_rebuild.proofs.MakeLemmas.{reads_left}
use Rattle.store_rebuild.proofs.make.rebuild.Goals as goal

pub returns-in-Ok-clause-reads : goal.returns-in-Ok-clause-reads
returns-in-Ok-clause-reads g c = reads_left _ _ c.make_again.ensures.any_moment (g.met.D.Disk.reads_image c.make_again.new.disk)

pub returns-in-Err-clause-reads : goal.returns-in-Err-clause-reads
returns-in-Err-clause-reads g c = reads_left _ _ c.make_again.ensures.any_moment (g.met.D.Disk.reads_image c.make_again.new.disk)
