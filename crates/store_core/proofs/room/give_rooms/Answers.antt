use Rattle.store_core.proofs.Common.{◌≡◌, sym, ◌∙◌, ap, arith, length, slice_set, List, LogState, roomy_box, OpenBox}
use Rattle.std.proofs.Common.{add-one}
use Rattle.model_octets.proofs.InPlaceLemmas.{changed_to-none, changed_to-full, changed_to-set, length-changed_to}
use Rattle.store_core.specs.Value.{roomy_log}
use Rattle.store_core.proofs.RoomLemmas.{roomy_by}
use Rattle.store_core.proofs.room.give_rooms.Goals as goal

pub loop-place-init : goal.loop-place-init
loop-place-init c = (sym (changed_to-none roomy_box c.args.boxes.now.items), omega (arith, c.requires.size), c.requires.rooms)

pub loop-place-preserved : goal.loop-place-preserved
loop-place-preserved c =
    let n = length-changed_to roomy_box c.loop-place.place c.args.boxes.now.items in
    let size : length c.loop-place.boxes.items ≡ length c.args.boxes.now.items = ap length c.loop-place.invariant.0 ∙ n in
    let log_is : c.take_room.new.self ≡ roomy_log c.index_mut.result.now.log = roomy_by c.index_mut.result.now.log c.take_room.new.self c.take_last-room.result c.take_last-room.ensures.room c.take_room.ensures in (
      rw add-one (ap (λ (l : LogState). slice_set c.loop-place.boxes.items c.loop-place.place (record { number = c.index_mut.result.now.number; log = l; index = c.index_mut.result.now.index })) log_is
          ∙ ap (λ (boxes : List OpenBox). slice_set boxes c.loop-place.place (roomy_box c.index_mut.result.now)) c.loop-place.invariant.0
          ∙ changed_to-set roomy_box c.loop-place.place c.args.boxes.now.items c.index_mut.result.now (omega arith) (rw (← c.loop-place.invariant.0) c.index_mut.ensures.value)),
      omega (arith, c.loop-place.invariant.1, c.take_last-room.ensures.len),
      c.take_last-room.ensures.rooms,
    )

pub returns : goal.returns
returns c = c.loop-place.invariant.0 ∙ changed_to-full roomy_box c.loop-place.place c.args.boxes.now.items (omega arith)
