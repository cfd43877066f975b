use Rattle.std.proofs.lemmas.Result.{on_ok_weaker}
use Rattle.box_snapshot.proofs.BoxSwitchLemmas.{only_drafted}
use Rattle.box_snapshot.proofs.MapFillLemmas.{runs_if_ok}
use Rattle.box_snapshot.proofs.RewritesLemmas.{rewrites_then}
use Rattle.box_snapshot.proofs.box_log.snapshot_box.Goals as goal

pub returns-clause-rewrites : goal.returns-clause-rewrites
returns-clause-rewrites g c =
    let now = c.drafted.new.store in
    rewrites_then g.D.Disk.history c.args.store.now now c.switched.new.store (g.met.D.Disk.reads_image now.disk) (runs_if_ok c.drafted.result c.in_ok-draft.draft now.stopped c.in_ok-draft.was c.drafted.ensures.stopped) c.drafted.ensures.rewrites
    c.switched.ensures.rewrites

pub returns-clause-only : goal.returns-clause-only
returns-clause-only g c =
    let H = g.D.Disk.history in
    let v = c.args.store.now in
    let now = c.drafted.new.store in
    let w = c.switched.new.store in
    on_ok_weaker c.switched.result (only_drafted v now w c.in_ok-draft.draft.log.name (H v.disk) (H now.disk) (H w.disk) c.drafted.ensures.same c.in_ok-draft.ensures.others) c.switched.ensures.only
