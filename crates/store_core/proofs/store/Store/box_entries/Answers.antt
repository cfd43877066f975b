use Rattle.store_core.proofs.Common.{sym}
use Rattle.store_core.proofs.PutInForceLemmas.{unfound}
use Rattle.store_core.proofs.store.Store.box_entries.Goals as goal

pub unreachable-requires : goal.unreachable-requires
unreachable-requires g c = unfound _ _ c.args.self.now c.args.mailbox.0 c.deref.result.now c.self.invariant.1 c.self.view_is c.requires c.deref.ensures.value (sym c.in-None.ensures)
