use Rattle.disk_model.proofs.ChangeAndSyncLemmas.{change_fails}
use Rattle.storage_files.proofs.AddLemmas.{stands-now, stands-reach, add-can, piece-between, changed_images, changed_others}
use Rattle.storage_files.proofs.device.write_on.Goals as goal

pub write_at-requires : goal.write_at-requires
write_at-requires g c = stands-reach c.args.name c.args.end _ (stands-now c.args.name c.args.end _ (g.met.D.Disk.reads_image c.args.disk.now) c.requires)

pub returns-in_err-write_at-clause-any_moment : goal.returns-in_err-write_at-clause-any_moment
returns-in_err-write_at-clause-any_moment g c =
    let s = stands-now c.args.name c.args.end _ (g.met.D.Disk.reads_image c.args.disk.now) c.requires in
    change_fails c.args.name _ _ _ _ _ (add-can c.args.name c.args.end c.args.octets.now _ s) c.in_err-write_at.ensures.failed

pub returns-clause-any_moment : goal.returns-clause-any_moment
returns-clause-any_moment g c =
    let s = stands-now c.args.name c.args.end _ (g.met.D.Disk.reads_image c.args.disk.now) c.requires in
    changed_images c.args.name _ _ _ _ _ (add-can c.args.name c.args.end c.args.octets.now _ s) c.in_ok-write_at.ensures.state

pub returns-clause-added : goal.returns-clause-added
returns-clause-added g c =
    let s = stands-now c.args.name c.args.end _ (g.met.D.Disk.reads_image c.args.disk.now) c.requires in
    piece-between c.args.name c.args.end c.args.octets.now _ _ s c.in_ok-write_at.ensures.state

pub returns-clause-others : goal.returns-clause-others
returns-clause-others g c =
    let s = stands-now c.args.name c.args.end _ (g.met.D.Disk.reads_image c.args.disk.now) c.requires in
    changed_others c.args.name _ _ _ _ _ (add-can c.args.name c.args.end c.args.octets.now _ s) c.in_ok-write_at.ensures.state
