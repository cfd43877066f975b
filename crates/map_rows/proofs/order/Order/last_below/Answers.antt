use Rattle.map_rows.proofs.Common.{◌≡◌, ◌≤◌, ◌-◌, ◌∙◌, ap, sym, filter, slice_get, arith, nat_lt, option_map, OrderKey, OrderValue, last_of}
use Rattle.map_rows.proofs.OrderLemmas.{last_is, none_below}
use Rattle.map_rows.proofs.order.Order.last_below.Goals as goal

pub returns-then-place-eq0 : goal.returns-then-place-eq0
returns-then-place-eq0 c =
    let place = rw c.deref.ensures.value at c.first_place-place.ensures in
    let start : c.first_place-place.result ≡ 0 = omega arith in
    sym (ap (option_map (λ (k : OrderKey). k.uid)) (none_below c.self.inside.keys.items c.args.number c.first_place-place.result place start))
    ∙ ap (λ (v : OrderValue). option_map (λ (k : OrderKey). k.uid) (last_of (filter (λ (k : OrderKey). nat_lt k.number c.args.number) v.keys))) c.self.view_is

pub returns : goal.returns
returns c =
    let place = rw c.deref.ensures.value at c.first_place-place.ensures in
    let some : 1 ≤ c.first_place-place.result = omega arith in
    c.uid_at.ensures ∙ ap (λ (v : OrderValue). option_map (λ (k : OrderKey). k.uid) (slice_get v.keys (c.first_place-place.result - 1))) (sym c.self.view_is)
    ∙ sym (ap (option_map (λ (k : OrderKey). k.uid)) (last_is c.self.inside.keys.items c.args.number c.first_place-place.result place some))
    ∙ ap (λ (v : OrderValue). option_map (λ (k : OrderKey). k.uid) (last_of (filter (λ (k : OrderKey). nat_lt k.number c.args.number) v.keys))) c.self.view_is
