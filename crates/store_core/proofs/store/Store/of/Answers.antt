use Rattle.store_core.proofs.Common.{sym, ◌∙◌, ap, subst, StoreValue, indexes_of, HasEntryRoom, IsStore, HasKnownInstances}
use Rattle.store_core.specs.Value.{newly_open}
use Rattle.store_core.proofs.RoomLemmas.{roomy_by, opened_as, dues_taken, store_roomy, room_there, instances_roomy, indexes_roomy}
use Rattle.store_core.proofs.MadeLogLemmas.{none_made}
use Rattle.store_core.proofs.store.Store.of.Goals as goal

pub invariant_of-result : goal.invariant_of-result
invariant_of-result g c =
    let is = opened_as c.args.alloc c.args.disk c.args.logs c.args.files c.args.instances c.args.lanes c.take_room.new.self c.give_rooms.new.boxes.items c.new.result.items c.highest-drawn.result c.room.inside.dues.items
    (roomy_by c.args.logs.map_log c.take_room.new.self c.room.inside.map_log c.room.invariant.0 c.take_room.ensures) c.give_rooms.ensures c.new.ensures.items c.highest-drawn.ensures
    (dues_taken c.args.logs.map.meaning.records c.room.inside.dues.items _ c.room.invariant.2 (ap (λ r. r.records) c.room.view_is ∙ c.requires.room.1)) in (
      sym c.requires.id,
      subst (λ (v : StoreValue _). IsStore (g.D.Disk.history c.args.disk) v) (sym is) (store_roomy (g.D.Disk.history c.args.disk) (newly_open c.args.alloc c.args.disk c.args.logs c.args.files c.args.instances c.args.lanes) c.requires.store),
      subst (λ (v : StoreValue _). HasEntryRoom v) (sym is) (room_there (newly_open c.args.alloc c.args.disk c.args.logs c.args.files c.args.instances c.args.lanes)),
      none_made _ _ c.new.ensures.items,
      subst (λ (v : StoreValue _). HasKnownInstances (g.D.Disk.history c.args.disk) v) (sym is) (instances_roomy (g.D.Disk.history c.args.disk) (newly_open c.args.alloc c.args.disk c.args.logs c.args.files c.args.instances c.args.lanes) c.requires.instances),
    )

pub returns-clause-store : goal.returns-clause-store
returns-clause-store g c =
    opened_as c.args.alloc c.args.disk c.args.logs c.args.files c.args.instances c.args.lanes c.take_room.new.self c.give_rooms.new.boxes.items c.new.result.items c.highest-drawn.result c.room.inside.dues.items
    (roomy_by c.args.logs.map_log c.take_room.new.self c.room.inside.map_log c.room.invariant.0 c.take_room.ensures) c.give_rooms.ensures c.new.ensures.items c.highest-drawn.ensures
    (dues_taken c.args.logs.map.meaning.records c.room.inside.dues.items _ c.room.invariant.2 (ap (λ r. r.records) c.room.view_is ∙ c.requires.room.1))

pub returns-clause-indexes : goal.returns-clause-indexes
returns-clause-indexes g c = ap indexes_of c.give_rooms.ensures ∙ indexes_roomy c.args.logs.boxes.items
