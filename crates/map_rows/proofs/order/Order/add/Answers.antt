use Rattle.map_rows.proofs.Common.{◌≡◌, ◌≤◌, ◌+◌, ◌-◌, ◌==◌, ◌∙◌, ap, sym, subst, find, None, arith, vec_len, vec_capacity, OrderKey, OrderValue, NumbersRise, with_key}
use Rattle.map_rows.proofs.OrderLemmas.{not_new, inserted_is, with_rises, same_value}
use Rattle.map_rows.proofs.order.Order.add.Goals as goal

pub unreachable-requires : goal.unreachable-requires
unreachable-requires c =
    let found = rw c.deref.ensures.value at c.in-Ok.ensures.found in
    not_new c.self.inside.keys.items c.args.key.number c.in-Ok.field-0 c.self.invariant.0 found
    (subst (λ (v : OrderValue). find (λ (k : OrderKey). k.number == c.args.key.number) v.keys ≡ None) (sym c.self.view_is) c.requires.new)

pub invariant_of-self : goal.invariant_of-self
invariant_of-self c =
    let absent = rw c.deref.ensures.value at c.in-Err.ensures.absent in
    let l = c.insert_key.ensures.len in
    let k = c.insert_key.ensures.capacity in
    let i : vec_len c.self.inside.keys + c.self.inside.room ≤ vec_capacity c.self.inside.keys = c.self.invariant.1 in
    let r : 1 ≤ c.self.inside.room = subst (λ (v : OrderValue). 1 ≤ v.room) (sym c.self.view_is) c.requires.room in (
      subst NumbersRise (sym (c.insert_key.ensures.items ∙ inserted_is c.args.key c.self.inside.keys.items c.in-Err.place absent)) (with_rises c.args.key c.self.inside.keys.items c.self.invariant.0),
      omega (arith, l, k, i, r),
    )

pub returns : goal.returns
returns c =
    let absent = rw c.deref.ensures.value at c.in-Err.ensures.absent in
    same_value _ _ _ _
    (c.insert_key.ensures.items ∙ inserted_is c.args.key c.self.inside.keys.items c.in-Err.place absent ∙ ap (λ (v : OrderValue). with_key c.args.key v.keys) c.self.view_is)
    (ap (λ (v : OrderValue). v.room - 1) c.self.view_is)
