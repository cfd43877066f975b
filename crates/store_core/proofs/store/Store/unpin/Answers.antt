use Rattle.store_core.proofs.Common.{◌≤◌, refl, sym, subst}
use Rattle.storage_files.specs.Files.{pins_in}
use Rattle.store_core.proofs.StoreFileLemmas.{room_kept}
use Rattle.store_core.proofs.UsedFileLemmas.{unpinned_store}
use Rattle.store_core.proofs.MadeLogLemmas.{made_still}
use Rattle.store_core.proofs.KnownInstanceLemmas.{instances_still}
use Rattle.store_core.proofs.store.Store.unpin.Goals as goal

pub invariant_of-self : goal.invariant_of-self
invariant_of-self g c = (
  c.self.invariant.0,
  unpinned_store _ _ c.unpin.new.self c.args.file.0 _ (subst (λ v. 1 ≤ pins_in c.args.file.0 v.files.files) (sym c.self.view_is) c.requires.pinned) c.unpin.ensures.files c.unpin.ensures.ends c.self.invariant.1,
  room_kept _ c.self.inside.disk c.unpin.new.self c.self.inside.drawn c.self.inside.stopped c.self.invariant.2,
  made_still _ _ _ refl refl refl refl refl c.self.invariant.3,
  instances_still _ _ _ c.self.invariant.4 refl refl refl (λ on. on),
)
