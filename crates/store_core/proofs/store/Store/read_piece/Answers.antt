use Rattle.store_core.proofs.Common.{refl}
use Rattle.store_core.proofs.StoreFileLemmas.{store_idle, room_kept}
use Rattle.store_core.proofs.MadeLogLemmas.{made_idle}
use Rattle.store_core.proofs.KnownInstanceLemmas.{instances_since}
use Rattle.store_core.proofs.store.Store.read_piece.Goals as goal

pub invariant_of-self : goal.invariant_of-self
invariant_of-self g c = (
  c.self.invariant.0,
  store_idle _ _ _ c.read_piece.new.disk c.read_piece.ensures.idle.same c.self.invariant.1,
  room_kept _ c.read_piece.new.disk c.self.inside.files c.self.inside.drawn c.self.inside.stopped c.self.invariant.2,
  made_idle _ _ _ _ refl refl refl refl refl c.read_piece.ensures.idle.same c.self.invariant.3,
  instances_since _ _ _ _ c.self.invariant.4 c.read_piece.ensures.idle.same refl refl refl (λ on. on),
)
