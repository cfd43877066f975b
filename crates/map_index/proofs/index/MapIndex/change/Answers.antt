use Rattle.map_index.proofs.Common.{◌<◌, ◌^◌, ◌∙◌, sym, ap, subst, arith, Highest, MapBox, TableValue, IsMapInOrder, box_of}
use Rattle.model_meaning.specs.MapMeaning.{higher}
use Rattle.map_index.proofs.SearchLemmas.{pairs_unmap}
use Rattle.map_index.proofs.MapOrderLemmas.{kept_more}
use Rattle.map_index.proofs.MapAppliedLemmas.{files_stay, same_parts, space_kept, room_kept}
use Rattle.map_index.proofs.NeedLemmas.{fits_table}
use Rattle.map_index.proofs.index.MapIndex.change.Goals as goal

pub change_parts-requires-clause-fits : goal.change_parts-requires-clause-fits
change_parts-requires-clause-fits c = fits_table _ c.args.entry.now c.self.invariant.0 (rw (← c.self.view_is) at c.requires.fits)

pub change_parts-requires-clause-boxes_rising : goal.change_parts-requires-clause-boxes_rising
change_parts-requires-clause-boxes_rising c = pairs_unmap (λ (a b : MapBox). a.number < b.number) box_of c.self.inside.boxes.items c.self.invariant.0.boxes.rising

pub invariant_of-self : goal.invariant_of-self
invariant_of-self c =
    let fits : c.higher-self-inside.result.map < 2 ^ 32 = omega arith in
    let most = c.higher-self-inside.ensures ∙ ap (higher c.self.inside.most) c.numbers_of.ensures in
    let records = c.change_parts.ensures.records in
    let parts = same_parts c.self.inside.store.0 _ _ _ _ _ _ _ _ (ap (λ (t : TableValue). t.records) records) c.change_parts.ensures.boxes (sym (files_stay c.args.entry.now c.requires.changes _)) most in
    let space = c.self.invariant in
    let boxes = c.change_parts.ensures.space_boxes in (
      subst IsMapInOrder (sym parts) (kept_more _ c.args.entry.now c.self.invariant.0 (rw (← c.self.view_is) at c.requires.fits) (subst (λ (h : Highest). h.map < 2 ^ 32) most fits)),
      room_kept _ _ _ space.1 (ap (λ (t : TableValue). t.record_room) records),
      room_kept _ _ _ space.2 (ap (λ (t : TableValue). t.instance_room) records),
      space_kept _ _ _ _ _ space.3 (omega (arith, boxes.0)) boxes.1,
      space.4,
    )
