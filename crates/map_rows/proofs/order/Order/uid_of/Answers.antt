use Rattle.map_rows.proofs.Common.{◌==◌, ◌∙◌, ap, sym, find, slice_get, option_map, OrderKey, OrderValue}
use Rattle.map_rows.proofs.OrderLemmas.{found_is, absent_is}
use Rattle.map_rows.proofs.order.Order.uid_of.Goals as goal

pub returns-in-Ok : goal.returns-in-Ok
returns-in-Ok c =
    let found = rw c.deref.ensures.value at c.in-Ok.ensures.found in
    c.uid_at.ensures ∙ ap (λ (v : OrderValue). option_map (λ (k : OrderKey). k.uid) (slice_get v.keys c.in-Ok.place)) (sym c.self.view_is)
    ∙ sym (ap (option_map (λ (k : OrderKey). k.uid)) (found_is c.self.inside.keys.items c.args.number c.in-Ok.place c.self.invariant.0 found))
    ∙ ap (λ (v : OrderValue). option_map (λ (k : OrderKey). k.uid) (find (λ (k : OrderKey). k.number == c.args.number) v.keys)) c.self.view_is

pub returns-in-Err : goal.returns-in-Err
returns-in-Err c =
    let absent = rw c.deref.ensures.value at c.in-Err.ensures.absent in
    sym (ap (option_map (λ (k : OrderKey). k.uid)) (absent_is c.self.inside.keys.items c.args.number c.in-Err.field-0 absent))
    ∙ ap (λ (v : OrderValue). option_map (λ (k : OrderKey). k.uid) (find (λ (k : OrderKey). k.number == c.args.number) v.keys)) c.self.view_is
