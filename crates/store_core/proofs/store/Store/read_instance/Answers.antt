use Rattle.store_core.proofs.Common.{refl}
use Rattle.store_core.proofs.KnownInstanceLemmas.{instances_since}
use Rattle.store_core.proofs.MadeLogLemmas.{made_idle}
use Rattle.store_core.proofs.StoreFileLemmas.{store_idle, room_kept}
use Rattle.store_core.proofs.InstanceKeepingLemmas.{kept_read}
use Rattle.store_core.proofs.store.Store.read_instance.Goals as goal

pub invariant_of-self : goal.invariant_of-self
invariant_of-self g c = (
  c.self.invariant.0,
  store_idle _ _ _ c.read_instance.new.disk c.read_instance.ensures.idle.same c.self.invariant.1,
  room_kept _ c.read_instance.new.disk c.self.inside.files c.self.inside.drawn c.self.inside.stopped c.self.invariant.2,
  made_idle _ _ _ _ refl refl refl refl refl c.read_instance.ensures.idle.same c.self.invariant.3,
  instances_since _ _ _ _ c.self.invariant.4 c.read_instance.ensures.idle.same refl refl refl (λ on. on),
)

pub returns-clause-keeps : goal.returns-clause-keeps
returns-clause-keeps g c = kept_read g.D.Disk.history _ c.args.self.now _ c.self.view_is refl refl c.read_instance.ensures.idle
