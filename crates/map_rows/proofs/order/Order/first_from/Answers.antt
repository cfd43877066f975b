use Rattle.map_rows.proofs.Common.{◌∙◌, ap, sym, find, slice_get, nat_le, option_map, OrderKey, OrderValue}
use Rattle.map_rows.proofs.OrderLemmas.{first_is}
use Rattle.map_rows.proofs.order.Order.first_from.Goals as goal

pub returns : goal.returns
returns c =
    let place = rw c.deref.ensures.value at c.first_place-place.ensures in
    c.uid_at.ensures ∙ ap (λ (v : OrderValue). option_map (λ (k : OrderKey). k.uid) (slice_get v.keys c.first_place-place.result)) (sym c.self.view_is)
    ∙ sym (ap (option_map (λ (k : OrderKey). k.uid)) (first_is c.self.inside.keys.items c.args.number c.first_place-place.result place))
    ∙ ap (λ (v : OrderValue). option_map (λ (k : OrderKey). k.uid) (find (λ (k : OrderKey). nat_le c.args.number k.number) v.keys)) c.self.view_is
