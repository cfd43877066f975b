use Rattle.store_core.proofs.Common.{ap}
use Rattle.store_core.proofs.LookupLemmas.{numbered_in}
use Rattle.store_core.proofs.store.Store.mailbox.Goals as goal

pub returns : goal.returns
returns g c = numbered_in c.args.number.0 _ c.self.inside.map.meaning c.args.self.now.map c.self.inside.boxes.items c.args.self.now.boxes c.deref.result.now _ c.self.invariant.1.box_logs (ap (λ v. v.map) c.self.view_is) (ap (λ v. v.boxes) c.self.view_is) c.deref.ensures.value c.index_of.ensures
