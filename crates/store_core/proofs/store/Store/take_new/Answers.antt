use Rattle.store_core.proofs.Common.{refl}
use Rattle.store_core.proofs.StoreFileLemmas.{room_kept}
use Rattle.store_core.proofs.UsedFileLemmas.{taken_new_store, full_store}
use Rattle.store_core.proofs.MadeLogLemmas.{made_still}
use Rattle.store_core.proofs.KnownInstanceLemmas.{instances_still}
use Rattle.store_core.proofs.store.Store.take_new.Goals as goal

pub invariant_of-self : goal.invariant_of-self
invariant_of-self g c = (
  c.self.invariant.0,
  taken_new_store _ _ c.take_new-take.new.self c.in-New.file c.known_facts.ensures c.in-New.ensures.take c.in-New.ensures.files c.take_new-take.ensures.ends c.self.invariant.1,
  room_kept _ c.self.inside.disk c.take_new-take.new.self (record c.self.inside.drawn { file = c.in-New.file.0 }) c.self.inside.stopped c.self.invariant.2,
  made_still _ _ _ refl refl refl refl refl c.self.invariant.3,
  instances_still _ _ _ c.self.invariant.4 refl refl refl (λ on. on),
)

pub invariant_of-self-in_default : goal.invariant_of-self-in_default
invariant_of-self-in_default g c = (
  c.self.invariant.0,
  full_store _ _ c.take_new-take.new.self c.take_new-take.result c.in_default.not-New c.take_new-take.ensures.take c.take_new-take.ensures.files c.self.invariant.1,
  room_kept _ c.self.inside.disk c.take_new-take.new.self c.self.inside.drawn c.self.inside.stopped c.self.invariant.2,
  made_still _ _ _ refl refl refl refl refl c.self.invariant.3,
  instances_still _ _ _ c.self.invariant.4 refl refl refl (λ on. on),
)
