use Rattle.store_core.proofs.Common.{refl}
use Rattle.store_core.proofs.StoreFileLemmas.{room_kept}
use Rattle.store_core.proofs.UsedFileLemmas.{emptied_store}
use Rattle.store_core.proofs.MadeLogLemmas.{made_still}
use Rattle.store_core.proofs.KnownInstanceLemmas.{instances_still}
use Rattle.store_core.proofs.store.Store.take_file.Goals as goal

pub invariant_of-self : goal.invariant_of-self
invariant_of-self g c = (
  c.self.invariant.0,
  emptied_store _ _ c.take_file.new.self c.args.file.0 c.take_file.ensures.files c.take_file.ensures.ends c.self.invariant.1,
  room_kept _ c.self.inside.disk c.take_file.new.self c.self.inside.drawn c.self.inside.stopped c.self.invariant.2,
  made_still _ _ _ refl refl refl refl refl c.self.invariant.3,
  instances_still _ _ _ c.self.invariant.4 refl refl refl (λ on. on),
)
