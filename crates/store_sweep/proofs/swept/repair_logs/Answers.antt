use Rattle.store_sweep.proofs.SweepStepLemmas.{images_then, keeps_then}
use Rattle.store_sweep.proofs.BoxLogLemmas.{made_repaired}
use Rattle.store_sweep.proofs.LogsInForceLemmas.{found_of, log_images, log_keeps, root_at, map_at, stands_still, log_since, map_apart, boxes_still, boxes_since, no_box_root, no_box_map, map_stays, root_stays, three_stay}
use Rattle.store_sweep.proofs.FittedLemmas.{there-then}
use Rattle.store_sweep.proofs.RepairLemmas.{repaired_there}
use Rattle.store_sweep.specs.Boxes.{found_logs, opened_logs}
use Rattle.std.proofs.Common.{◌∷◌, refl, ◌∙◌}
use Rattle.std.proofs.lemmas.List.Elements.{All-head, All-tail}
use Rattle.disk_model.specs.declared.name.FileName.TheVariants as file
use Rattle.gate_log.specs.State.{IsWholeLog}
use Rattle.model_kept.proofs.KeptLemmas.{kept_then}
use Rattle.store_sweep.proofs.StayLemmas.{repair_stays}
use Rattle.store_sweep.proofs.swept.repair_logs.Goals as goal

pub repair-requires : goal.repair-requires
repair-requires g c = record { stands = found_of c.args.root_log (g.D.Disk.history c.args.disk.now) c.requires.root.1 }

pub returns-in_err-root_log-clause-images : goal.returns-in_err-root_log-clause-images
returns-in_err-root_log-clause-images g c = λ generation is.
    log_images generation c.args.map.now.meaning c.args.root_log _ _ (root_at generation c.args.map.now.meaning c.args.root_log c.requires.root.0) c.requires.root.1 c.in_err-root_log.ensures.any_moment

pub repair-requires-2 : goal.repair-requires-2
repair-requires-2 g c = record {
  stands = found_of c.args.map_log _
      (stands_still c.args.map_log c.args.root_log.name _ _ (map_apart c.requires.map_log.0.0 c.args.map_log c.args.root_log c.requires.map_log.0.1 c.requires.root.0) c.in_ok-root_log.ensures.others c.requires.map_log.1);
}

pub returns-in_err-map_log-clause-images : goal.returns-in_err-map_log-clause-images
returns-in_err-map_log-clause-images g c = λ generation is.
    let at = root_at generation c.args.map.now.meaning c.args.root_log c.requires.root.0 in
    let r = made_repaired _ _ c.args.root_log _ c.in_ok-root_log.ensures.log c.in_ok-root_log.ensures.reads c.in_ok-root_log.ensures.holds in
    images_then generation c.args.map.now.meaning _ _ _
    (log_images generation c.args.map.now.meaning c.args.root_log _ _ at c.requires.root.1 c.in_ok-root_log.ensures.any_moment)
    (log_keeps generation c.args.map.now.meaning c.args.root_log _ _ _ at c.requires.root.1 c.in_ok-root_log.ensures.others r).holds
    (log_images generation c.args.map.now.meaning c.args.map_log _ _ (map_at generation c.args.map.now.meaning c.args.map_log is)
    (stands_still c.args.map_log c.args.root_log.name _ _ (map_apart generation c.args.map_log c.args.root_log is c.requires.root.0) c.in_ok-root_log.ensures.others c.requires.map_log.1)
    c.in_err-map_log.ensures.any_moment)

pub repair_boxes-requires-clause-stand : goal.repair_boxes-requires-clause-stand
repair_boxes-requires-clause-stand g c =
    boxes_still c.args.map.now.meaning (found_logs c.args.boxes.items) c.args.map_log.name _ _ c.requires.box_logs (no_box_map c.requires.map_log.0.0 c.args.map_log c.requires.map_log.0.1) c.in_ok-map_log.ensures.others
    (boxes_still c.args.map.now.meaning (found_logs c.args.boxes.items) c.args.root_log.name _ _ c.requires.box_logs (no_box_root c.args.root_log c.requires.root.0) c.in_ok-root_log.ensures.others c.requires.box_logs_stand)

pub returns-in_err-repair_boxes-clause-images : goal.returns-in_err-repair_boxes-clause-images
returns-in_err-repair_boxes-clause-images g c = λ generation is.
    let at = root_at generation c.args.map.now.meaning c.args.root_log c.requires.root.0 in
    let map_is = map_at generation c.args.map.now.meaning c.args.map_log is in
    let r = made_repaired _ _ c.args.root_log _ c.in_ok-root_log.ensures.log c.in_ok-root_log.ensures.reads c.in_ok-root_log.ensures.holds in
    let s = made_repaired _ _ c.args.map_log _ c.in_ok-map_log.ensures.log c.in_ok-map_log.ensures.reads c.in_ok-map_log.ensures.holds in
    let stands = stands_still c.args.map_log c.args.root_log.name _ _ (map_apart generation c.args.map_log c.args.root_log is c.requires.root.0) c.in_ok-root_log.ensures.others c.requires.map_log.1 in
    let keeps = log_keeps generation c.args.map.now.meaning c.args.root_log _ _ _ at c.requires.root.1 c.in_ok-root_log.ensures.others r in
    images_then generation c.args.map.now.meaning _ _ _
    (images_then generation c.args.map.now.meaning _ _ _ (log_images generation c.args.map.now.meaning c.args.root_log _ _ at c.requires.root.1 c.in_ok-root_log.ensures.any_moment) keeps.holds
    (log_images generation c.args.map.now.meaning c.args.map_log _ _ map_is stands c.in_ok-map_log.ensures.any_moment))
    (keeps_then generation c.args.map.now.meaning _ _ _ keeps (log_keeps generation c.args.map.now.meaning c.args.map_log _ _ _ map_is stands c.in_ok-map_log.ensures.others s)).holds
    (c.in_err-repair_boxes.ensures.images generation)

pub returns-clause-images : goal.returns-clause-images
returns-clause-images g c = λ generation is.
    let at = root_at generation c.args.map.now.meaning c.args.root_log c.requires.root.0 in
    let map_is = map_at generation c.args.map.now.meaning c.args.map_log is in
    let r = made_repaired _ _ c.args.root_log _ c.in_ok-root_log.ensures.log c.in_ok-root_log.ensures.reads c.in_ok-root_log.ensures.holds in
    let s = made_repaired _ _ c.args.map_log _ c.in_ok-map_log.ensures.log c.in_ok-map_log.ensures.reads c.in_ok-map_log.ensures.holds in
    let stands = stands_still c.args.map_log c.args.root_log.name _ _ (map_apart generation c.args.map_log c.args.root_log is c.requires.root.0) c.in_ok-root_log.ensures.others c.requires.map_log.1 in
    let keeps = log_keeps generation c.args.map.now.meaning c.args.root_log _ _ _ at c.requires.root.1 c.in_ok-root_log.ensures.others r in
    images_then generation c.args.map.now.meaning _ _ _
    (images_then generation c.args.map.now.meaning _ _ _ (log_images generation c.args.map.now.meaning c.args.root_log _ _ at c.requires.root.1 c.in_ok-root_log.ensures.any_moment) keeps.holds
    (log_images generation c.args.map.now.meaning c.args.map_log _ _ map_is stands c.in_ok-map_log.ensures.any_moment))
    (keeps_then generation c.args.map.now.meaning _ _ _ keeps (log_keeps generation c.args.map.now.meaning c.args.map_log _ _ _ map_is stands c.in_ok-map_log.ensures.others s)).holds
    (c.in_ok-repair_boxes.ensures.images generation)

pub returns-clause-keeps : goal.returns-clause-keeps
returns-clause-keeps g c = λ generation is.
    let r = made_repaired _ _ c.args.root_log _ c.in_ok-root_log.ensures.log c.in_ok-root_log.ensures.reads c.in_ok-root_log.ensures.holds in
    let s = made_repaired _ _ c.args.map_log _ c.in_ok-map_log.ensures.log c.in_ok-map_log.ensures.reads c.in_ok-map_log.ensures.holds in
    let stands = stands_still c.args.map_log c.args.root_log.name _ _ (map_apart generation c.args.map_log c.args.root_log is c.requires.root.0) c.in_ok-root_log.ensures.others c.requires.map_log.1 in
    keeps_then generation c.args.map.now.meaning _ _ _
    (keeps_then generation c.args.map.now.meaning _ _ _
    (log_keeps generation c.args.map.now.meaning c.args.root_log _ _ _ (root_at generation c.args.map.now.meaning c.args.root_log c.requires.root.0) c.requires.root.1 c.in_ok-root_log.ensures.others r)
    (log_keeps generation c.args.map.now.meaning c.args.map_log _ _ _ (map_at generation c.args.map.now.meaning c.args.map_log is) stands c.in_ok-map_log.ensures.others s))
    (c.in_ok-repair_boxes.ensures.keeps generation)

pub returns-clause-map_log : goal.returns-clause-map_log
returns-clause-map_log g c =
    let s = made_repaired _ _ c.args.map_log _ c.in_ok-map_log.ensures.log c.in_ok-map_log.ensures.reads c.in_ok-map_log.ensures.holds in
    map_stays c.requires.map_log.0.0 c.args.map.now.meaning (found_logs c.args.boxes.items) c.args.map_log _ _ _ _ c.requires.map_log.0.1 c.requires.box_logs c.in_ok-repair_boxes.ensures.others
    (log_since c.args.map_log _ c.args.root_log.name _ _ _ (map_apart c.requires.map_log.0.0 c.args.map_log c.args.root_log c.requires.map_log.0.1 c.requires.root.0) c.in_ok-root_log.ensures.others s)

pub returns-clause-box_logs : goal.returns-clause-box_logs
returns-clause-box_logs g c =
    boxes_since c.args.map.now.meaning (found_logs c.args.boxes.items) (opened_logs c.repair_boxes.new.opened.items) c.args.root_log.name _ _ _ c.requires.box_logs (no_box_root c.args.root_log c.requires.root.0) c.in_ok-root_log.ensures.others
    (boxes_since c.args.map.now.meaning (found_logs c.args.boxes.items) (opened_logs c.repair_boxes.new.opened.items) c.args.map_log.name _ _ _ c.requires.box_logs (no_box_map c.requires.map_log.0.0 c.args.map_log c.requires.map_log.0.1) c.in_ok-map_log.ensures.others
    c.in_ok-repair_boxes.ensures.opened)

pub returns-clause-others : goal.returns-clause-others
returns-clause-others g c = three_stay c.args.root_log c.args.map_log (found_logs c.args.boxes.items) _ _ _ _ c.in_ok-root_log.ensures.others c.in_ok-map_log.ensures.others c.in_ok-repair_boxes.ensures.others

pub returns-clause-root_log : goal.returns-clause-root_log
returns-clause-root_log g c =
    let r = made_repaired _ _ c.args.root_log _ c.in_ok-root_log.ensures.log c.in_ok-root_log.ensures.reads c.in_ok-root_log.ensures.holds in
    root_stays c.requires.map_log.0.0 c.args.map.now.meaning (found_logs c.args.boxes.items) c.args.root_log c.args.map_log _ _ _ _ _ c.requires.root.0 c.requires.map_log.0.1 c.requires.box_logs c.in_ok-map_log.ensures.others c.in_ok-repair_boxes.ensures.others r

pub returns-clause-there : goal.returns-clause-there
returns-clause-there g c =
    let r = made_repaired _ _ c.args.root_log _ c.in_ok-root_log.ensures.log c.in_ok-root_log.ensures.reads c.in_ok-root_log.ensures.holds in
    let s = made_repaired _ _ c.args.map_log _ c.in_ok-map_log.ensures.log c.in_ok-map_log.ensures.reads c.in_ok-map_log.ensures.holds in
    let root = found_of c.args.root_log (g.D.Disk.history c.args.disk.now) c.requires.root.1 in
    let map = found_of c.args.map_log _ (stands_still c.args.map_log c.args.root_log.name _ _ (map_apart c.requires.map_log.0.0 c.args.map_log c.args.root_log c.requires.map_log.0.1 c.requires.root.0) c.in_ok-root_log.ensures.others c.requires.map_log.1) in
    there-then _ _ _
    (there-then _ _ _ (repaired_there c.args.root_log _ root.0 _ _ root.1 c.in_ok-root_log.ensures.others r) (repaired_there c.args.map_log _ map.0 _ _ map.1 c.in_ok-map_log.ensures.others s))
    c.in_ok-repair_boxes.ensures.there

pub returns-in_err-root_log-clause-mail_stays : goal.returns-in_err-root_log-clause-mail_stays
returns-in_err-root_log-clause-mail_stays g c = repair_stays c.args.map.now.meaning c.args.root_log file.Root _ _ c.requires.root.0 refl c.in_err-root_log.ensures.others_stay

pub returns-in_err-map_log-clause-mail_stays : goal.returns-in_err-map_log-clause-mail_stays
returns-in_err-map_log-clause-mail_stays g c = kept_then c.args.map.now.meaning _ _ _ (g.met.D.Disk.reads_image c.repair.new.disk) (repair_stays c.args.map.now.meaning c.args.root_log file.Root _ _ c.requires.root.0 refl c.in_ok-root_log.ensures.others_stay) (repair_stays c.args.map.now.meaning c.args.map_log (file.Map c.requires.map_log.0.0) _ _ c.requires.map_log.0.1 refl c.in_err-map_log.ensures.others_stay)

pub returns-in_err-repair_boxes-clause-mail_stays : goal.returns-in_err-repair_boxes-clause-mail_stays
returns-in_err-repair_boxes-clause-mail_stays g c = kept_then c.args.map.now.meaning _ _ _ (g.met.D.Disk.reads_image c.repair-2.new.disk) (kept_then c.args.map.now.meaning _ _ _ (g.met.D.Disk.reads_image c.repair.new.disk) (repair_stays c.args.map.now.meaning c.args.root_log file.Root _ _ c.requires.root.0 refl c.in_ok-root_log.ensures.others_stay) (repair_stays c.args.map.now.meaning c.args.map_log (file.Map c.requires.map_log.0.0) _ _ c.requires.map_log.0.1 refl c.in_ok-map_log.ensures.others_stay)) c.in_err-repair_boxes.ensures.mail_stays

pub returns-clause-mail_stays : goal.returns-clause-mail_stays
returns-clause-mail_stays g c = kept_then c.args.map.now.meaning _ _ _ (g.met.D.Disk.reads_image c.repair-2.new.disk) (kept_then c.args.map.now.meaning _ _ _ (g.met.D.Disk.reads_image c.repair.new.disk) (repair_stays c.args.map.now.meaning c.args.root_log file.Root _ _ c.requires.root.0 refl c.in_ok-root_log.ensures.others_stay) (repair_stays c.args.map.now.meaning c.args.map_log (file.Map c.requires.map_log.0.0) _ _ c.requires.map_log.0.1 refl c.in_ok-map_log.ensures.others_stay)) c.in_ok-repair_boxes.ensures.mail_stays

pub returns-in_err-root_log-clause-untouched : goal.returns-in_err-root_log-clause-untouched
returns-in_err-root_log-clause-untouched g c = λ all. (c.in_err-root_log.ensures.untouched (All-head IsWholeLog c.args.root_log (c.args.map_log ∷ found_logs c.args.boxes.items) all)).1

pub returns-in_err-map_log-clause-untouched : goal.returns-in_err-map_log-clause-untouched
returns-in_err-map_log-clause-untouched g c = λ all. (c.in_err-map_log.ensures.untouched (All-head IsWholeLog c.args.map_log (found_logs c.args.boxes.items) (All-tail IsWholeLog c.args.root_log (c.args.map_log ∷ found_logs c.args.boxes.items) all))).1 ∙ (c.in_ok-root_log.ensures.untouched (All-head IsWholeLog c.args.root_log (c.args.map_log ∷ found_logs c.args.boxes.items) all)).1

pub returns-in_err-repair_boxes-clause-untouched : goal.returns-in_err-repair_boxes-clause-untouched
returns-in_err-repair_boxes-clause-untouched g c = λ all. c.in_err-repair_boxes.ensures.untouched (All-tail IsWholeLog c.args.map_log (found_logs c.args.boxes.items) (All-tail IsWholeLog c.args.root_log (c.args.map_log ∷ found_logs c.args.boxes.items) all)) ∙ ((c.in_ok-map_log.ensures.untouched (All-head IsWholeLog c.args.map_log (found_logs c.args.boxes.items) (All-tail IsWholeLog c.args.root_log (c.args.map_log ∷ found_logs c.args.boxes.items) all))).1 ∙ (c.in_ok-root_log.ensures.untouched (All-head IsWholeLog c.args.root_log (c.args.map_log ∷ found_logs c.args.boxes.items) all)).1)

pub returns-clause-untouched : goal.returns-clause-untouched
returns-clause-untouched g c = λ all. c.in_ok-repair_boxes.ensures.untouched (All-tail IsWholeLog c.args.map_log (found_logs c.args.boxes.items) (All-tail IsWholeLog c.args.root_log (c.args.map_log ∷ found_logs c.args.boxes.items) all)) ∙ ((c.in_ok-map_log.ensures.untouched (All-head IsWholeLog c.args.map_log (found_logs c.args.boxes.items) (All-tail IsWholeLog c.args.root_log (c.args.map_log ∷ found_logs c.args.boxes.items) all))).1 ∙ (c.in_ok-root_log.ensures.untouched (All-head IsWholeLog c.args.root_log (c.args.map_log ∷ found_logs c.args.boxes.items) all)).1)
