use Rattle.store_core.proofs.Common.{ap, option_map}
use Rattle.std.specs.Option.{option_copied}
use Rattle.box_index.specs.State.{BoxState}
use Rattle.store_core.proofs.LookupLemmas.{named_in, unnamed_in}
use Rattle.store_core.proofs.store.Store.list_of.Goals as goal

pub returns : goal.returns
returns g c = named_in c.args.name.now c.in_ok-number.number c.self.inside.map.meaning c.args.self.now.map _ _ c.known_facts.ensures.boxes.rising (ap (λ v. v.map) c.self.view_is) c.in_ok-number.ensures c.mailbox.ensures

pub returns-in_err-number : goal.returns-in_err-number
returns-in_err-number g c = unnamed_in c.args.name.now c.self.inside.map.meaning c.args.self.now.map _ _ (ap (λ v. v.map) c.self.view_is) c.in_err-number.ensures (ap (λ o. option_map (λ (i : BoxState). i.meaning) (option_copied o)) c.from_residual.ensures)
