use Rattle.std.proofs.Common.{List, All, subst}
use Rattle.std.proofs.lemmas.Bool.Decides.{when_true, when_false}
use Rattle.std.proofs.lemmas.Result.{err_from_is_err_and}
use Rattle.store_checks.specs.Checked.{IsCountedIn, IsMiscountedIn}
use Rattle.store_checks.specs.declared.mailbox.CheckedBox.{CheckedBox}
use Rattle.disk_model.proofs.IdleLemmas.{idle-then}
use Rattle.store_checks.proofs.MailboxLemmas.{found-then, are_found-then}
use Rattle.store_checks.proofs.CheckOrderLemmas.{root_fails, map_fails, has_map, boxes_fail, logs_pass, counted, counts_fail, regions_fail, instances_fail, opens, good_logs}
use Rattle.store_checks.proofs.check.check_store.Goals as goal

pub returns-in_err-root-clause-refused : goal.returns-in_err-root-clause-refused
returns-in_err-root-clause-refused g c =
    let p = err_from_is_err_and c.from_residual.result c.from_residual.ensures.1 in
    rw (p.1, p.2) (root_fails (g.D.Disk.history c.args.disk.now) c.in_err-root.field-0.0 c.in_err-root.ensures.refused)

pub returns-in_err-map_log-clause-refused : goal.returns-in_err-map_log-clause-refused
returns-in_err-map_log-clause-refused g c =
    let p = err_from_is_err_and c.from_residual-in_err-map_log.result c.from_residual-in_err-map_log.ensures.1 in
    rw (p.1, p.2) (map_fails c.in_ok-root.root.id.0 c.in_ok-root.root.generation _ _ c.in_err-map_log.field-0.0 c.in_ok-root.ensures.idle c.in_ok-root.ensures.read.1.root c.in_err-map_log.ensures.refused)

pub returns-in_err-map_log-clause-idle : goal.returns-in_err-map_log-clause-idle
returns-in_err-map_log-clause-idle g c = idle-then _ _ _ c.in_ok-root.ensures.idle c.read_map.ensures.idle

pub returns-in_err-boxes-clause-refused : goal.returns-in_err-boxes-clause-refused
returns-in_err-boxes-clause-refused g c =
    let p = err_from_is_err_and c.from_residual-in_err-boxes.result c.from_residual-in_err-boxes.ensures.1 in
    let m = c.in_ok-map_log.ensures.read in
    let has = has_map c.in_ok-root.root.id.0 c.in_ok-root.root.generation c.in_ok-map_log.map_log c.in_ok-map_log.map.meaning m.0 _ _ _ c.in_ok-root.ensures.idle c.in_ok-root.ensures.read.1.root m.1 in
    rw (p.1, p.2) (boxes_fail c.in_ok-root.root.id.0 c.in_ok-root.root.generation m.0 c.in_ok-map_log.map.meaning _ _ c.in_err-boxes.field-0.0 (idle-then _ _ _ c.in_ok-root.ensures.idle c.in_ok-map_log.ensures.idle) m.1.meaning has c.in_err-boxes.ensures.refused)

pub returns-in_err-boxes-clause-idle : goal.returns-in_err-boxes-clause-idle
returns-in_err-boxes-clause-idle g c = idle-then _ _ _ (idle-then _ _ _ c.in_ok-root.ensures.idle c.in_ok-map_log.ensures.idle) c.read_boxes.ensures.idle

pub returns-then-not-counted-clause-refused : goal.returns-then-not-counted-clause-refused
returns-then-not-counted-clause-refused g c =
    let m = c.in_ok-map_log.ensures.read in
    let b = c.in_ok-boxes.ensures.read in
    let has = has_map c.in_ok-root.root.id.0 c.in_ok-root.root.generation c.in_ok-map_log.map_log c.in_ok-map_log.map.meaning m.0 _ _ _ c.in_ok-root.ensures.idle c.in_ok-root.ensures.read.1.root m.1 in
    let passed = logs_pass c.in_ok-root.root.id.0 c.in_ok-root.root.generation m.0 c.in_ok-map_log.map.meaning c.in_ok-boxes.boxes b.0 _ _ _ (idle-then _ _ _ c.in_ok-root.ensures.idle c.in_ok-map_log.ensures.idle) m.1.meaning has b.1 in
    counts_fail c.in_ok-root.root.id.0 c.in_ok-root.root.generation m.0 c.in_ok-map_log.map.meaning c.in_ok-boxes.boxes b.0 _ m.1.meaning b.1.meanings passed
    (subst (λ (bs : List CheckedBox). IsMiscountedIn c.in_ok-map_log.map.meaning bs) c.as_slice.ensures (when_false _ _ c.if-not-counted.true c.in_ok-counted.ensures))

pub returns-then-not-counted-clause-idle : goal.returns-then-not-counted-clause-idle
returns-then-not-counted-clause-idle g c = idle-then _ _ _ (idle-then _ _ _ c.in_ok-root.ensures.idle c.in_ok-map_log.ensures.idle) c.in_ok-boxes.ensures.idle

pub returns-in_err-check_regions-clause-refused : goal.returns-in_err-check_regions-clause-refused
returns-in_err-check_regions-clause-refused g c =
    let p = err_from_is_err_and c.from_residual-in_err-check_regions.result c.from_residual-in_err-check_regions.ensures.1 in
    let m = c.in_ok-map_log.ensures.read in
    let b = c.in_ok-boxes.ensures.read in
    let idle = idle-then _ _ _ c.in_ok-root.ensures.idle c.in_ok-map_log.ensures.idle in
    let has = has_map c.in_ok-root.root.id.0 c.in_ok-root.root.generation c.in_ok-map_log.map_log c.in_ok-map_log.map.meaning m.0 _ _ _ c.in_ok-root.ensures.idle c.in_ok-root.ensures.read.1.root m.1 in
    let passed = logs_pass c.in_ok-root.root.id.0 c.in_ok-root.root.generation m.0 c.in_ok-map_log.map.meaning c.in_ok-boxes.boxes b.0 _ _ _ idle m.1.meaning has b.1 in
    let counts = counted c.in_ok-map_log.map.meaning c.in_ok-boxes.boxes b.0 b.1.meanings (subst (λ (bs : List CheckedBox). All (IsCountedIn bs) c.in_ok-map_log.map.meaning.records) c.as_slice.ensures (when_true _ _ c.if-not-counted.false c.in_ok-counted.ensures)) in
    rw (p.1, p.2) (regions_fail c.in_ok-root.root.id.0 c.in_ok-root.root.generation m.0 c.in_ok-map_log.map.meaning b.0 _ _ c.in_err-check_regions.field-0.0 (idle-then _ _ _ idle c.in_ok-boxes.ensures.idle) m.1.meaning passed counts c.in_err-check_regions.ensures.refused)

pub returns-in_err-check_regions-clause-idle : goal.returns-in_err-check_regions-clause-idle
returns-in_err-check_regions-clause-idle g c = idle-then _ _ _ (idle-then _ _ _ (idle-then _ _ _ c.in_ok-root.ensures.idle c.in_ok-map_log.ensures.idle) c.in_ok-boxes.ensures.idle) c.check_regions.ensures.idle

pub returns-in_err-check_instances-clause-refused : goal.returns-in_err-check_instances-clause-refused
returns-in_err-check_instances-clause-refused g c =
    let p = err_from_is_err_and c.from_residual-in_err-check_instances.result c.from_residual-in_err-check_instances.ensures.1 in
    let m = c.in_ok-map_log.ensures.read in
    let b = c.in_ok-boxes.ensures.read in
    let idle = idle-then _ _ _ c.in_ok-root.ensures.idle c.in_ok-map_log.ensures.idle in
    let before = idle-then _ _ _ idle c.in_ok-boxes.ensures.idle in
    let has = has_map c.in_ok-root.root.id.0 c.in_ok-root.root.generation c.in_ok-map_log.map_log c.in_ok-map_log.map.meaning m.0 _ _ _ c.in_ok-root.ensures.idle c.in_ok-root.ensures.read.1.root m.1 in
    let passed = logs_pass c.in_ok-root.root.id.0 c.in_ok-root.root.generation m.0 c.in_ok-map_log.map.meaning c.in_ok-boxes.boxes b.0 _ _ _ idle m.1.meaning has b.1 in
    let counts = counted c.in_ok-map_log.map.meaning c.in_ok-boxes.boxes b.0 b.1.meanings (subst (λ (bs : List CheckedBox). All (IsCountedIn bs) c.in_ok-map_log.map.meaning.records) c.as_slice.ensures (when_true _ _ c.if-not-counted.false c.in_ok-counted.ensures)) in
    rw (p.1, p.2) (instances_fail c.in_ok-root.root.id.0 c.in_ok-root.root.generation m.0 c.in_ok-map_log.map.meaning b.0 _ _ _ c.in_err-check_instances.field-0.0 before (idle-then _ _ _ before c.in_ok-check_regions.ensures.idle) m.1.meaning passed counts c.in_ok-check_regions.ensures.passed c.in_err-check_instances.ensures.refused)

pub returns-in_err-check_instances-clause-idle : goal.returns-in_err-check_instances-clause-idle
returns-in_err-check_instances-clause-idle g c = idle-then _ _ _ (idle-then _ _ _ (idle-then _ _ _ (idle-then _ _ _ c.in_ok-root.ensures.idle c.in_ok-map_log.ensures.idle) c.in_ok-boxes.ensures.idle) c.in_ok-check_regions.ensures.idle) c.check_instances.ensures.idle

pub returns-clause-idle : goal.returns-clause-idle
returns-clause-idle g c = idle-then _ _ _ (idle-then _ _ _ (idle-then _ _ _ (idle-then _ _ _ c.in_ok-root.ensures.idle c.in_ok-map_log.ensures.idle) c.in_ok-boxes.ensures.idle) c.in_ok-check_regions.ensures.idle) c.in_ok-check_instances.ensures.idle

pub returns-clause-checked : goal.returns-clause-checked
returns-clause-checked g c =
    let r = c.in_ok-root.ensures.read in
    let m = c.in_ok-map_log.ensures.read in
    let b = c.in_ok-boxes.ensures.read in
    let idle = idle-then _ _ _ c.in_ok-root.ensures.idle c.in_ok-map_log.ensures.idle in
    let before = idle-then _ _ _ idle c.in_ok-boxes.ensures.idle in
    let has = has_map c.in_ok-root.root.id.0 c.in_ok-root.root.generation c.in_ok-map_log.map_log c.in_ok-map_log.map.meaning m.0 _ _ _ c.in_ok-root.ensures.idle r.1.root m.1 in
    let passed = logs_pass c.in_ok-root.root.id.0 c.in_ok-root.root.generation m.0 c.in_ok-map_log.map.meaning c.in_ok-boxes.boxes b.0 _ _ _ idle m.1.meaning has b.1 in
    let counts = counted c.in_ok-map_log.map.meaning c.in_ok-boxes.boxes b.0 b.1.meanings (subst (λ (bs : List CheckedBox). All (IsCountedIn bs) c.in_ok-map_log.map.meaning.records) c.as_slice.ensures (when_true _ _ c.if-not-counted.false c.in_ok-counted.ensures)) in
    let last = idle-then _ _ _ c.in_ok-check_regions.ensures.idle c.in_ok-check_instances.ensures.idle in
    let from_boxes = idle-then _ _ _ c.in_ok-boxes.ensures.idle last in (
      r.0,
      m.0,
      b.0,
      record {
        opens = opens c.in_ok-root.root.id.0 c.in_ok-root.root.generation m.0 c.in_ok-map_log.map.meaning b.0 _ _ _ before (idle-then _ _ _ before c.in_ok-check_regions.ensures.idle) m.1.meaning passed counts c.in_ok-check_regions.ensures.passed c.in_ok-check_instances.ensures.passed;
        good = good_logs c.in_ok-root.root.id.0 m.0 c.in_ok-map_log.map.meaning c.in_ok-boxes.boxes b.0 _ _ m.1.meaning m.1.good b.1 counts;
        map_is = m.1.meaning;
        boxes_are = b.1.meanings;
        root_log = found-then c.in_ok-root.root.log _ _ _ _ _ (idle-then _ _ _ c.in_ok-map_log.ensures.idle from_boxes) r.1.log;
        map_log = found-then c.in_ok-map_log.map_log _ _ _ _ _ from_boxes m.1.found;
        box_logs = are_found-then c.in_ok-root.root.id.0 c.in_ok-map_log.map.meaning.boxes c.in_ok-boxes.boxes b.0 _ _ last b.1.found;
      },
    )

pub returns-in_err-counted-clause-idle : goal.returns-in_err-counted-clause-idle
returns-in_err-counted-clause-idle g c = idle-then _ _ _ (idle-then _ _ _ c.in_ok-root.ensures.idle c.in_ok-map_log.ensures.idle) c.in_ok-boxes.ensures.idle
