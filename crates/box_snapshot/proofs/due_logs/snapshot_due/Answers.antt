use Rattle.std.proofs.Common.{◌≡◌, false, All, List, sym, subst}
use Rattle.std.proofs.lemmas.Result.{on_ok_weaker}
use Rattle.store_core.specs.declared.store.OpenBox.{OpenBox}
use Rattle.box_snapshot.specs.Due.{is_box_due}
use Rattle.box_snapshot.proofs.DueLogsLemmas.{due_written, kept_on, map_anew_after, map_log_after, runs_on}
use Rattle.box_snapshot.proofs.RewritesLemmas.{only_then, rewrites_then}
use Rattle.box_snapshot.proofs.due_logs.snapshot_due.Goals as goal

pub returns-clause-rewrites : goal.returns-clause-rewrites
returns-clause-rewrites g c =
    rewrites_then g.D.Disk.history c.args.store.now c.snapshot_due_boxes.new.store c.snapshot_due_map.new.store (g.met.D.Disk.reads_image c.snapshot_due_boxes.new.store.disk)
    (runs_on c.snapshot_due_boxes.new.store.stopped (λ is. absurd (cc (c.in_ok-snapshot_due_boxes.ensures.stopped.1 is)))) c.in_ok-snapshot_due_boxes.ensures.rewrites c.snapshot_due_map.ensures.rewrites

pub returns-clause-undue : goal.returns-clause-undue
returns-clause-undue g c =
    on_ok_weaker c.snapshot_due_map.result
    (λ undue. record { boxes = subst (λ (bs : List OpenBox). All (λ b. is_box_due b ≡ false) bs) (sym c.snapshot_due_map.ensures.same) c.in_ok-snapshot_due_boxes.ensures.undue; map_log = undue })
    c.snapshot_due_map.ensures.undue

pub returns-clause-kept : goal.returns-clause-kept
returns-clause-kept g c = on_ok_weaker c.snapshot_due_map.result (λ undue. kept_on c.args.store.now c.snapshot_due_boxes.new.store c.snapshot_due_map.new.store c.snapshot_due_map.ensures.same c.in_ok-snapshot_due_boxes.ensures.kept) c.snapshot_due_map.ensures.undue

pub returns-clause-only : goal.returns-clause-only
returns-clause-only g c =
    on_ok_weaker c.snapshot_due_map.result (λ only. only_then g.D.Disk.history c.args.store.now c.snapshot_due_boxes.new.store c.snapshot_due_map.new.store c.in_ok-snapshot_due_boxes.ensures.only only) c.snapshot_due_map.ensures.only

pub returns-clause-written : goal.returns-clause-written
returns-clause-written g c =
    let did = c.in_ok-snapshot_due_boxes.ensures in
    on_ok_weaker c.snapshot_due_map.result (λ undue. due_written c.args.store.now c.snapshot_due_boxes.new.store c.snapshot_due_map.new.store did.once did.undue c.snapshot_due_map.ensures.same) c.snapshot_due_map.ensures.undue

pub returns-clause-map_log : goal.returns-clause-map_log
returns-clause-map_log g c =
    on_ok_weaker c.snapshot_due_map.result (map_log_after c.args.store.now c.snapshot_due_boxes.new.store c.snapshot_due_map.new.store c.in_ok-snapshot_due_boxes.ensures.map_log) c.snapshot_due_map.ensures.map_log

pub returns-clause-map_written : goal.returns-clause-map_written
returns-clause-map_written g c =
    on_ok_weaker c.snapshot_due_map.result
    (λ written undue due. map_anew_after c.args.store.now c.snapshot_due_boxes.new.store c.snapshot_due_map.new.store (c.snapshot_due_boxes.ensures.idle undue).1 due written)
    c.snapshot_due_map.ensures.written
