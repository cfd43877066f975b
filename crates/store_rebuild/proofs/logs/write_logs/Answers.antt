use Rattle.std.proofs.Common.{◌≡◌, inl, inr, refl}
use Rattle.disk_model.proofs.BetweenLemmas.{between-map, between-then}
use Rattle.disk_model.proofs.MomentLemmas.{each_image-then, if_told-map}
use Rattle.disk_model.specs.Disk.{Between, DiskState, EachImage, IfTold}
use Rattle.disk_model.specs.declared.name.FileName.{FileName}
use Rattle.disk_model.specs.declared.name.FileName.TheVariants as file
use Rattle.model_rebuild.specs.RebuildMoments.{IsLeftByRebuild}
use Rattle.model_rebuild.specs.RebuildPlan.{RebuildPlan}
use Rattle.model_rebuild.specs.RebuiltLists.{lists_of}
use Rattle.store_rebuild.specs.NewLogs.{AreNewLogs}
use Rattle.store_rebuild.specs.Writing.{IsBoxLogOf, IsNewLog, IsReady, IsRootless, KeepsAllBut, OthersReadSame}
use Rattle.store_rebuild.proofs.BoxesLemmas.{KeepsMailFiles, mail_of_boxes, others_made, others_more, others_then, map_no_root, rootless_then, without_store}
use Rattle.store_rebuild.proofs.FileLemmas.{NamedOthers, named_between}
use Rattle.store_rebuild.proofs.StoreLemmas.{HasBoxes, LacksRoot, boxes_written, left_without, map_written, root_written, with_root}
use Rattle.store_rebuild.proofs.logs.write_logs.Given.{Over}
use Rattle.store_rebuild.proofs.logs.write_logs.Goals.{In_ok-write_boxes, In_ok-write_log}
use Rattle.store_rebuild.proofs.logs.write_logs.Goals as goal

-- once the logs of the mailboxes are written

boxed : (g : Over) (c : In_ok-write_boxes g) (first : DiskState) (plan : RebuildPlan) → AreNewLogs plan c.args.logs → c.args.box_generation ≡ plan.box_generation → IfTold (g.D.Disk.history c.args.disk.now) (IsReady c.args.id.0 plan first) → IfTold (g.D.Disk.history c.write_boxes.new.disk) (HasBoxes c.args.id.0 plan first)
boxed g c first plan logs b ready =
    boxes_written c.args.id.0 plan first c.args.box_generation c.args.logs.boxes.items _ _ logs.boxes b ready (between-map (KeepsAllBut (IsBoxLogOf c.args.box_generation)) KeepsMailFiles _ _ (mail_of_boxes c.args.box_generation) c.in_ok-write_boxes.ensures.others)
    (c.in_ok-write_boxes.ensures.rootless first (if_told-map (IsReady c.args.id.0 plan first) (IsRootless first) _ (λ disk k. k.rootless) ready)) c.in_ok-write_boxes.ensures.made

boxed_images : (g : Over) (c : In_ok-write_boxes g) (first : DiskState) (plan : RebuildPlan) → IfTold (g.D.Disk.history c.args.disk.now) (IsReady c.args.id.0 plan first) → EachImage (λ _ image. IsLeftByRebuild first (lists_of plan.taken) image) (g.D.Disk.history c.args.disk.now) (g.D.Disk.history c.write_boxes.new.disk)
boxed_images g c first plan ready = left_without first plan _ _ (c.in_ok-write_boxes.ensures.any_moment first (if_told-map (IsReady c.args.id.0 plan first) (IsRootless first) _ (λ disk k. k.rootless) ready))

-- and the map log

named_map : (g : Over) (c : In_ok-write_log g) → Between (NamedOthers (file.Map c.args.map_generation)) (g.D.Disk.history c.write_boxes.new.disk) (g.D.Disk.history c.write_log.new.disk)
named_map g c = named_between (file.Map c.args.map_generation) _ _ c.in_ok-write_log.ensures.others

mapped : (g : Over) (c : In_ok-write_log g) (first : DiskState) (plan : RebuildPlan) → AreNewLogs plan c.args.logs → c.args.map_generation ≡ plan.map_generation → IfTold (g.D.Disk.history c.write_boxes.new.disk) (HasBoxes c.args.id.0 plan first) → IfTold (g.D.Disk.history c.write_log.new.disk) (LacksRoot c.args.id.0 plan first)
mapped g c first plan logs m has =
    map_written c.args.id.0 plan first c.args.map_generation c.head_of-head.result c.args.logs.map_log _ _ m c.head_of-head.ensures.is logs.map_log has (named_map g c)
    (rootless_then first (file.Map c.args.map_generation) _ _ refl (map_no_root c.args.map_generation) (named_map g c) (if_told-map (HasBoxes c.args.id.0 plan first) (IsRootless first) _ (λ disk k. k.ready.rootless) has)) c.in_ok-write_log.ensures.made

mapped_images : (g : Over) (c : In_ok-write_log g) (first : DiskState) (plan : RebuildPlan) → IfTold (g.D.Disk.history c.write_boxes.new.disk) (HasBoxes c.args.id.0 plan first) → EachImage (λ _ image. IsLeftByRebuild first (lists_of plan.taken) image) (g.D.Disk.history c.args.disk.now) (g.D.Disk.history c.write_boxes.new.disk)
    → EachImage (λ _ image. IsLeftByRebuild first (lists_of plan.taken) image) (g.D.Disk.history c.args.disk.now) (g.D.Disk.history c.write_log.new.disk)
mapped_images g c first plan has images =
    each_image-then _ _ _ _ images
    (left_without first plan _ _ (without_store first _ (file.Map c.args.map_generation) _ _ refl (map_no_root c.args.map_generation) (if_told-map (HasBoxes c.args.id.0 plan first) (IsRootless first) _ (λ disk k. k.ready.rootless) has) c.in_ok-write_log.ensures.any_moment))

pub returns-in_err-write_boxes-clause-any_moment : goal.returns-in_err-write_boxes-clause-any_moment
returns-in_err-write_boxes-clause-any_moment g c = λ first plan logs m b ready.
    left_without first plan _ _ (c.in_err-write_boxes.ensures.any_moment first (if_told-map (IsReady c.args.id.0 plan first) (IsRootless first) _ (λ disk k. k.rootless) ready))

pub returns-in_err-write_log-clause-any_moment : goal.returns-in_err-write_log-clause-any_moment
returns-in_err-write_log-clause-any_moment g c = λ first plan logs m b ready.
    let at = (goal.at.returns-in_err-write_log-clause-any_moment g c).In_ok-write_boxes in
    each_image-then _ _ _ _ (boxed_images g at first plan ready)
    (left_without first plan _ _ (without_store first _ (file.Map c.args.map_generation) _ _ refl (map_no_root c.args.map_generation) (if_told-map (HasBoxes c.args.id.0 plan first) (IsRootless first) _ (λ disk k. k.ready.rootless) (boxed g at first plan logs b ready)) c.in_err-write_log.ensures.any_moment))

pub returns-in_err-write_log-2-clause-any_moment : goal.returns-in_err-write_log-2-clause-any_moment
returns-in_err-write_log-2-clause-any_moment g c = λ first plan logs m b ready.
    let at = goal.at.returns-in_err-write_log-2-clause-any_moment g c in
    let has = boxed g at.In_ok-write_boxes first plan logs b ready in
    each_image-then _ _ _ _ (mapped_images g at.In_ok-write_log first plan has (boxed_images g at.In_ok-write_boxes first plan ready))
    (with_root c.args.id.0 plan first c.head_of-head-2.result c.args.logs.root_log _ _ c.head_of-head-2.ensures.is logs.root_log (mapped g at.In_ok-write_log first plan logs m has) c.in_err-write_log-2.ensures.any_moment)

pub returns-clause-any_moment : goal.returns-clause-any_moment
returns-clause-any_moment g c = λ first plan logs m b ready.
    let at = goal.at.returns-clause-any_moment g c in
    let has = boxed g at.In_ok-write_boxes first plan logs b ready in
    each_image-then _ _ _ _ (mapped_images g at.In_ok-write_log first plan has (boxed_images g at.In_ok-write_boxes first plan ready))
    (with_root c.args.id.0 plan first c.head_of-head-2.result c.args.logs.root_log _ _ c.head_of-head-2.ensures.is logs.root_log (mapped g at.In_ok-write_log first plan logs m has) c.in_ok-write_log-2.ensures.any_moment)

pub returns-clause-made : goal.returns-clause-made
returns-clause-made g c = λ first plan logs m b ready.
    let at = goal.at.returns-clause-made g c in
    let has = boxed g at.In_ok-write_boxes first plan logs b ready in
    root_written c.args.id.0 plan first c.head_of-head-2.result c.args.logs.root_log _ _ c.head_of-head-2.ensures.is logs.root_log (mapped g at.In_ok-write_log first plan logs m has) (named_between file.Root _ _ c.in_ok-write_log-2.ensures.others) c.in_ok-write_log-2.ensures.made

pub returns-clause-others : goal.returns-clause-others
returns-clause-others g c =
    let at = goal.at.returns-clause-others g c in
    let New : FileName → Type 0 = IsNewLog c.args.map_generation c.args.box_generation in
    between-map (KeepsAllBut New) (OthersReadSame c.args.map_generation c.args.box_generation) _ _ (λ a b k. k.reads)
    (between-then (KeepsAllBut New) (KeepsAllBut New) (KeepsAllBut New) _ (g.D.Disk.history c.write_log.new.disk) _ (others_then New)
    (between-then (KeepsAllBut New) (KeepsAllBut New) (KeepsAllBut New) _ (g.D.Disk.history c.write_boxes.new.disk) _ (others_then New)
    (between-map (KeepsAllBut (IsBoxLogOf c.args.box_generation)) (KeepsAllBut New) _ _ (others_more (IsBoxLogOf c.args.box_generation) New (λ name box. inr (inr box))) c.in_ok-write_boxes.ensures.others)
    (between-map (NamedOthers (file.Map c.args.map_generation)) (KeepsAllBut New) _ _ (others_made New (file.Map c.args.map_generation) (inr (inl refl))) (named_map g at.In_ok-write_log)))
    (between-map (NamedOthers file.Root) (KeepsAllBut New) _ _ (others_made New file.Root (inl refl)) (named_between file.Root _ _ c.in_ok-write_log-2.ensures.others)))
