use Rattle.std.proofs.Common.{◌≡◌, rules, ◌++◌, ◌∷◌, [], refl, List, ◌∙◌, ap}
use Rattle.std.proofs.lemmas.Result.{err_from_is_err_and}
use Rattle.disk_model.proofs.IdleLemmas.{idle-begins}
use Rattle.store_core.specs.declared.store.OpenBox.{OpenBox}
use Rattle.store_open.specs.Making.{IsFreeForStore, no_files, no_instances}
use Rattle.store_open.proofs.FaultLemmas.{kept_err}
use Rattle.store_open.proofs.IdleUnlessLemmas.{stays}
use Rattle.store_open.proofs.FirstLogsLemmas.{checked-images}
use Rattle.store_open.proofs.NewStoreLemmas.{new_store, new_instances}
use Rattle.store_open.proofs.init.new_logs.Goals as goal

pub returns-in_err-map-clause-any_moment : goal.returns-in_err-map-clause-any_moment
returns-in_err-map-clause-any_moment g c = checked-images _ _ _ (idle-begins _)

pub returns-in_err-index-clause-any_moment : goal.returns-in_err-index-clause-any_moment
returns-in_err-index-clause-any_moment g c = checked-images _ _ _ (idle-begins _)

pub returns-in_err-boxes-clause-any_moment : goal.returns-in_err-boxes-clause-any_moment
returns-in_err-boxes-clause-any_moment g c = checked-images _ _ _ (idle-begins _)

pub returns-clause-store : goal.returns-clause-store
returns-clause-store g c =
    let e = c.in_ok-made.ensures in
    let none : c.in_ok-files.files ≡ no_files = search rules in
    let box : OpenBox = record { number = record { 0 = 1 }; log = c.in_ok-made.made.box_log; index = c.in_ok-index.index } in
    rw none (new_store c.args.alloc c.make_files.new.disk c.args.id.0 box (record { id = c.args.id; root_log = c.in_ok-made.made.root_log; map_log = c.in_ok-made.made.map_log; map = c.in_ok-map.map; boxes = c.push_box.new.boxes }) c.in_ok-instances.instances _ c.in_ok-map.ensures
    (record {
      made = e.store;
      root_held = e.root_log.0;
      root_name = e.root_log.1;
      root_head_is = e.root_log.2;
      map_held = e.map_log.0;
      map_name = e.map_log.1;
      map_head_is = e.map_log.2;
      box_held = e.box_log.0;
      box_is = e.box_log.1;
    }) refl (ap (λ i. i.meaning) c.in_ok-index.ensures)
    (c.push_box.ensures ∙ ap (λ (bs : List OpenBox). bs ++ box ∷ []) c.in_ok-boxes.ensures.items))

pub returns-in_err-map-clause-untouched : goal.returns-in_err-map-clause-untouched
returns-in_err-map-clause-untouched g c = stays IsFreeForStore _ _ (idle-begins _)

pub returns-in_err-index-clause-untouched : goal.returns-in_err-index-clause-untouched
returns-in_err-index-clause-untouched g c = stays IsFreeForStore _ _ (idle-begins _)

pub returns-in_err-boxes-clause-untouched : goal.returns-in_err-boxes-clause-untouched
returns-in_err-boxes-clause-untouched g c = stays IsFreeForStore _ _ (idle-begins _)

pub returns-in_err-room-clause-any_moment : goal.returns-in_err-room-clause-any_moment
returns-in_err-room-clause-any_moment g c = checked-images _ _ _ (idle-begins _)

pub returns-in_err-room-clause-untouched : goal.returns-in_err-room-clause-untouched
returns-in_err-room-clause-untouched g c = stays IsFreeForStore _ _ (idle-begins _)

pub returns-in_err-files-clause-any_moment : goal.returns-in_err-files-clause-any_moment
returns-in_err-files-clause-any_moment g c = checked-images _ _ _ (idle-begins _)

pub returns-in_err-files-clause-untouched : goal.returns-in_err-files-clause-untouched
returns-in_err-files-clause-untouched g c = stays IsFreeForStore _ _ (idle-begins _)

pub returns-clause-known : goal.returns-clause-known
returns-clause-known g c =
    let none : c.in_ok-files.files ≡ no_files = search rules in
    let empty : c.in_ok-instances.instances ≡ no_instances c.args.id = search rules in
    rw none (new_instances c.args.alloc c.make_files.new.disk c.args.id (record { id = c.args.id; root_log = c.in_ok-made.made.root_log; map_log = c.in_ok-made.made.map_log; map = c.in_ok-map.map; boxes = c.push_box.new.boxes }) c.in_ok-instances.instances _ c.in_ok-map.ensures empty c.in_ok-made.ensures.store)

pub returns-in_err-instances-clause-any_moment : goal.returns-in_err-instances-clause-any_moment
returns-in_err-instances-clause-any_moment g c = checked-images _ _ _ (idle-begins _)

pub returns-in_err-instances-clause-untouched : goal.returns-in_err-instances-clause-untouched
returns-in_err-instances-clause-untouched g c = stays IsFreeForStore _ _ (idle-begins _)

pub returns-in_err-made-clause-idle : goal.returns-in_err-made-clause-idle
returns-in_err-made-clause-idle g c =
    let p = err_from_is_err_and c.from_residual-in_err-made.result c.from_residual-in_err-made.ensures.1 in
    kept_err c.from_residual-in_err-made.result p.0 _ _ p.1 p.2 c.in_err-made.ensures.idle
