use Rattle.std.proofs.Common.{◌∷◌, [], List, ℕ, ap, length, length-append, refl, sym, subst, ◌∙◌, arith}
use Rattle.disk_model.proofs.BetweenLemmas.{between-begins, between-map, between-then}
use Rattle.disk_model.proofs.FaultCountLemmas.{no_fault-then}
use Rattle.disk_model.proofs.MomentLemmas.{each_image-then, if_told-all}
use Rattle.disk_model.specs.Disk.{IfTold}
use Rattle.disk_model.specs.declared.name.FileName.TheVariants as file
use Rattle.store_rebuild.specs.Writing.{IsBoxLogOf, KeepBoxLogs, KeepsAllBut}
use Rattle.store_rebuild.proofs.BoxesLemmas.{box_no_root, left_more, one_more, others_begin, others_made, others_then, room_for, rootless_then, whole_done, whole_more, without_begins, without_store}
use Rattle.store_rebuild.proofs.FileLemmas.{named_between}
use Rattle.store_rebuild.proofs.logs.write_boxes.Goals as goal

pub loop-log-init : goal.loop-log-init
loop-log-init g c = record {
  whole = c.into_iter-log-iterator.ensures.into_iter_gives.0;
  left = c.into_iter-log-iterator.ensures.into_iter_gives.1 ∙ c.requires.0 ∙ sym (ap length c.into_iter-log-iterator.ensures.into_iter_gives.0);
  number = refl;
  rootless = λ first r. (without_begins first _ r, r);
  made = if_told-all _ _ (λ disk. tt);
  others = between-begins (KeepsAllBut (IsBoxLogOf c.args.generation)) _ (others_begin (IsBoxLogOf c.args.generation));
  unfailed = refl;
}

pub returns-in_err-write_log-clause-any_moment : goal.returns-in_err-write_log-clause-any_moment
returns-in_err-write_log-clause-any_moment g c = λ first r.
    let h = c.loop-log.invariant.rootless first r in
    each_image-then _ _ _ _ h.0 (without_store first _ (file.Box c.loop-log.number c.args.generation) _ _ refl (box_no_root c.loop-log.number c.args.generation) h.1 c.in_err-write_log.ensures.any_moment)

pub overflow_add-number : goal.overflow_add-number
overflow_add-number g c =
    let n = c.loop-log.invariant.number in
    let f = c.requires.1 in
    let r = room_for c.loop-log.yielded c.in-Some.log _ _ c.args.logs.items c.in-Some.ensures.steps.0 c.loop-log.invariant.whole in
    omega (arith, n, f, r)

pub loop-log-preserved : goal.loop-log-preserved
loop-log-preserved g c =
    let named = named_between (file.Box c.loop-log.number c.args.generation) _ _ c.in_ok-write_log.ensures.others in
    let apart = box_no_root c.loop-log.number c.args.generation in
    record {
      whole = whole_more c.loop-log.yielded c.in-Some.log _ _ c.args.logs.items c.in-Some.ensures.steps.0 c.loop-log.invariant.whole;
      left = left_more c.in-Some.log _ _ _ _ c.in-Some.ensures.steps.0 c.loop-log.invariant.left c.in-Some.ensures.steps.1;
      number = let n = c.loop-log.invariant.number in omega (arith, n, length-append c.loop-log.yielded (c.in-Some.log ∷ []));
      rootless = λ first r.
          let h = c.loop-log.invariant.rootless first r in (
            each_image-then _ _ _ _ h.0 (without_store first _ (file.Box c.loop-log.number c.args.generation) _ _ refl apart h.1 c.in_ok-write_log.ensures.any_moment),
            rootless_then first (file.Box c.loop-log.number c.args.generation) _ _ refl apart named h.1,
          );
      made = one_more c.args.id.0 c.args.generation c.loop-log.number c.head_of-head.result c.loop-log.yielded c.in-Some.log _ _ c.loop-log.invariant.number c.head_of-head.ensures.is named c.in_ok-write_log.ensures.made c.loop-log.invariant.made;
      others = between-then (KeepsAllBut (IsBoxLogOf c.args.generation)) (KeepsAllBut (IsBoxLogOf c.args.generation)) (KeepsAllBut (IsBoxLogOf c.args.generation)) _ _ _ (others_then (IsBoxLogOf c.args.generation)) c.loop-log.invariant.others
          (between-map _ (KeepsAllBut (IsBoxLogOf c.args.generation)) _ _ (others_made (IsBoxLogOf c.args.generation) (file.Box c.loop-log.number c.args.generation) (c.loop-log.number, refl)) named);
      unfailed = no_fault-then _ _ _ c.loop-log.invariant.unfailed c.in_ok-write_log.ensures.unfailed;
    }

pub returns-clause-any_moment : goal.returns-clause-any_moment
returns-clause-any_moment g c = λ first r. (c.loop-log.invariant.rootless first r).0

pub returns-clause-rootless : goal.returns-clause-rootless
returns-clause-rootless g c = λ first r. (c.loop-log.invariant.rootless first r).1

pub returns-clause-made : goal.returns-clause-made
returns-clause-made g c =
    let e = whole_done c.loop-log.yielded _ c.args.logs.items _ c.in-None.ensures.steps.0 c.loop-log.invariant.left c.loop-log.invariant.whole in
    subst (λ (ls : List (List (List ℕ))). IfTold (g.D.Disk.history c.loop-log.disk) (λ disk. KeepBoxLogs disk c.args.id.0 1 c.args.generation ls)) e c.loop-log.invariant.made
