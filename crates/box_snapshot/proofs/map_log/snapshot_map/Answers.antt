use Rattle.box_snapshot.proofs.MapFillLemmas.{runs_if_ok}
use Rattle.box_snapshot.proofs.MapSnapshotLemmas.{switched_rewrites}
use Rattle.box_snapshot.proofs.RewritesLemmas.{rewrites_then}
use Rattle.box_snapshot.proofs.map_log.snapshot_map.Goals as goal

pub returns-clause-rewrites : goal.returns-clause-rewrites
returns-clause-rewrites g c =
    let H = g.D.Disk.history in
    let v = c.args.store.now in
    let now = c.drafted.new.store in
    let w = c.switch_map.new.self in
    let e = c.switch_map.ensures in
    rewrites_then H v now w (g.met.D.Disk.reads_image now.disk) (runs_if_ok c.drafted.result c.in_ok-draft.draft now.stopped c.in_ok-draft.was c.drafted.ensures.stopped) c.drafted.ensures.rewrites
    (switched_rewrites H now w c.in_ok-draft.draft c.switch_map.result c.facts.ensures.store c.in_ok-draft.ensures.filled.drafted e.same e.any_moment e.mail_stays e.grows e.stopped e.memory e.settled e.others e.names)
