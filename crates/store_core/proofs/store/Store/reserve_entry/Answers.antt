use Rattle.store_core.proofs.Common.{refl}
use Rattle.store_core.proofs.EntryRoomLemmas.{roomier_as, room_more}
use Rattle.store_core.proofs.MadeLogLemmas.{made_still}
use Rattle.store_core.proofs.KnownInstanceLemmas.{instances_still}
use Rattle.store_core.proofs.store.Store.reserve_entry.Goals as goal

pub invariant_of-self : goal.invariant_of-self
invariant_of-self g c = (
  c.self.invariant.0,
  roomier_as _ _ c.reserve.new.self c.reserve.ensures.same c.self.invariant.1,
  room_more _ c.reserve.new.self c.reserve.ensures.no_less c.self.invariant.2,
  made_still _ _ _ refl refl refl refl refl c.self.invariant.3,
  instances_still _ _ _ c.self.invariant.4 refl refl refl (λ on. on),
)
