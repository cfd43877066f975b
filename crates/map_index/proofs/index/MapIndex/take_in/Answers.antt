use Rattle.map_index.proofs.Common.{◌<◌, ◌^◌, ◌∙◌, ℕ, sym, ap, subst, arith, Highest, MapBox, TableValue, IsMapInOrder, MapIndexValue, box_of, FileNo}
use Rattle.model_meaning.specs.MapMeaning.{higher}
use Rattle.map_index.specs.declared.room.MapRoom.{MapRoom}
use Rattle.map_index.specs.Value.{HasRoomFor}
use Rattle.map_index.proofs.SearchLemmas.{pairs_unmap}
use Rattle.map_index.proofs.MapOrderLemmas.{kept_more}
use Rattle.map_index.proofs.MapAppliedLemmas.{same_parts, space_left, room_left_over}
use Rattle.map_index.proofs.NeedLemmas.{fits_table}
use Rattle.map_index.proofs.index.MapIndex.take_in.Goals as goal

pub take_parts-requires-clause-fits : goal.take_parts-requires-clause-fits
take_parts-requires-clause-fits c = fits_table _ c.args.entry c.self.invariant.0 (rw (← c.self.view_is) at c.requires.fits)

pub take_parts-requires-clause-boxes_rising : goal.take_parts-requires-clause-boxes_rising
take_parts-requires-clause-boxes_rising c = pairs_unmap (λ (a b : MapBox). a.number < b.number) box_of c.self.inside.boxes.items c.self.invariant.0.boxes.rising

pub take_parts-requires-clause-files_rising : goal.take_parts-requires-clause-files_rising
take_parts-requires-clause-files_rising c = pairs_unmap (λ (a b : ℕ). a < b) (λ (f : FileNo). f.0) c.self.inside.files.items c.self.invariant.0.files.rising

pub invariant_of-self : goal.invariant_of-self
invariant_of-self c =
    let most = c.higher-most.ensures ∙ ap (higher c.self.inside.most) c.numbers_of.ensures in
    let records = c.take_parts.ensures.records in
    let parts = same_parts c.self.inside.store.0 _ _ _ _ _ _ _ _ (ap (λ (t : TableValue). t.records) records) c.take_parts.ensures.boxes c.take_parts.ensures.files most in
    let fits : c.higher-most.result.map < 2 ^ 32 = omega arith in
    let space = c.self.invariant in
    let room : HasRoomFor c.args.entry c.self.inside.room = subst (λ (v : MapIndexValue). HasRoomFor c.args.entry v.room) (sym c.self.view_is) c.requires.room in
    let left = c.room_left-room.ensures in
    let boxes = c.take_parts.ensures.space_boxes in
    let files = c.take_parts.ensures.space_files in (
      subst IsMapInOrder (sym parts) (kept_more _ c.args.entry c.self.invariant.0 (rw (← c.self.view_is) at c.requires.fits) (subst (λ (h : Highest). h.map < 2 ^ 32) most fits)),
      room_left_over _ _ _ _ _ space.1 (ap (λ (t : TableValue). t.record_room) records) (ap (λ (r : MapRoom). r.records) left),
      room_left_over _ _ _ _ _ space.2 (ap (λ (t : TableValue). t.instance_room) records) (ap (λ (r : MapRoom). r.instances) left),
      space_left _ _ _ _ _ _ _ space.3 boxes.0 boxes.1 room.boxes (ap (λ (r : MapRoom). r.boxes) left),
      space_left _ _ _ _ _ _ _ space.4 files.0 files.1 room.files (ap (λ (r : MapRoom). r.files) left),
    )
