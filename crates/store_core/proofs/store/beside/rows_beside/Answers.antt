use Rattle.store_core.proofs.Common.{◌∙◌, ℕ, take, sym, ap, arith, in_boxes}
use Rattle.std.proofs.Common.{replicate}
use Rattle.store_core.proofs.BesideLemmas.{boxes_none, none_beside, same_beside, walk_of_boxes, boxes_have_room, boxes_more}
use Rattle.store_core.proofs.store.beside.rows_beside.Goals as goal

pub loop-open_box-init : goal.loop-open_box-init
loop-open_box-init c = (
  c.in_ok-sums.ensures.items_if_clones_equal (λ y e. e) ∙ ap (λ (n : ℕ). replicate n 0) c.rows.ensures ∙ none_beside c.args.map.now.meaning.records ∙ same_beside (λ u. 0) (λ u. in_boxes u (take 0 c.args.boxes.now)) c.args.map.now.meaning.records (λ u. sym (boxes_none u c.args.boxes.now)),
  λ u. let none = boxes_none u c.args.boxes.now in omega (arith, none),
)

pub add_rows-requires-clause-room : goal.add_rows-requires-clause-room
add_rows-requires-clause-room c = λ uid.
    let within = c.loop-open_box-test.true in let few = c.requires in
    boxes_have_room c.loop-open_box.open_box-index uid c.args.boxes.now c.args.map.now.meaning.records c.loop-open_box.sums.items (omega (arith, within, few)) c.loop-open_box.invariant.1 c.loop-open_box.invariant.0

pub loop-open_box-preserved : goal.loop-open_box-preserved
loop-open_box-preserved c = (
  walk_of_boxes c.loop-open_box.open_box-index c.args.boxes.now c.open_box-item.result c.args.map.now.meaning.records c.loop-open_box.sums.items c.add_rows.new.sums.items c.known_facts.ensures.records.rising c.loop-open_box-test.true c.open_box-item.is
      c.loop-open_box.invariant.0 c.add_rows.ensures.added,
  λ u.
      let more = boxes_more u c.loop-open_box.open_box-index c.args.boxes.now c.open_box-item.result c.loop-open_box-test.true c.open_box-item.is in
      let few = c.add_rows.ensures.few u in
      let before = c.loop-open_box.invariant.1 u in
      omega (arith, more, few, before),
)
