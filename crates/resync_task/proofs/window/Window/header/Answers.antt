use Rattle.resync_task.proofs.ReadLemmas.{only_none}
use Rattle.resync_task.proofs.WindowLemmas.{found_then, header_found, none_then}
use Rattle.resync_task.proofs.window.Window.header.Goals as goal

pub returns-in-Some-clause-some : goal.returns-in-Some-clause-some
returns-in-Some-clause-some g c = header_found (g.D.Disk.history c.args.store.now.disk) c.args.file.0 c.args.offset c.args.self.now c.in-Some.header c.requires c.in-Some.ensures.some

pub returns-in-Some-clause-only : goal.returns-in-Some-clause-only
returns-in-Some-clause-only g c = only_none c.args.store.now (g.D.Disk.history c.args.store.now.disk)

pub returns-clause-some : goal.returns-clause-some
returns-clause-some g c =
    found_then c.header_at-2.result (g.D.Disk.history c.args.store.now.disk) (g.D.Disk.history c.load.new.store.disk) c.args.file.0 c.args.offset c.load.new.self c.load.ensures.only.idle c.in_ok-load.ensures.has c.header_at-2.ensures.some

pub returns-clause-none : goal.returns-clause-none
returns-clause-none g c =
    none_then c.header_at-2.result (g.D.Disk.history c.args.store.now.disk) c.args.file.0 c.args.offset c.load.new.self c.in_ok-load.ensures.part c.in_ok-load.ensures.start c.header_at-2.ensures.none
