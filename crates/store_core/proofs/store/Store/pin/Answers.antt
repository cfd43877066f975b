use Rattle.store_core.proofs.Common.{list_any, ◌≡◌, ◌==◌, true, refl, sym, subst}
use Rattle.store_core.proofs.StoreFileLemmas.{room_kept}
use Rattle.store_core.proofs.UsedFileLemmas.{pinned_store}
use Rattle.store_core.proofs.MadeLogLemmas.{made_still}
use Rattle.store_core.proofs.KnownInstanceLemmas.{instances_still}
use Rattle.store_core.proofs.store.Store.pin.Goals as goal

pub invariant_of-self : goal.invariant_of-self
invariant_of-self g c = (
  c.self.invariant.0,
  pinned_store _ _ c.pin.new.self c.args.file.0 _ c.pin.ensures.files (subst (λ v. list_any (λ row. row.file == c.args.file.0) v.map.records ≡ true) (sym c.self.view_is) c.requires.region) c.pin.ensures.ends c.self.invariant.1,
  room_kept _ c.self.inside.disk c.pin.new.self c.self.inside.drawn c.self.inside.stopped c.self.invariant.2,
  made_still _ _ _ refl refl refl refl refl c.self.invariant.3,
  instances_still _ _ _ c.self.invariant.4 refl refl refl (λ on. on),
)
