use Rattle.map_rows.proofs.Common.{◌+◌, ◌≤◌, ◌<◌, ◌∙◌, not, ap, sym, subst, arith, rules, vec_len, vec_capacity, AllPairs-filter, has_map_uid, OrderKey, OrderValue, NumbersRise}
use Rattle.std.proofs.lemmas.Fn.{filter_same}
use Rattle.map_rows.proofs.SwitchLemmas.{left_keys}
use Rattle.map_rows.proofs.order.Order.remove_each.Goals as goal

pub invariant_of-self : goal.invariant_of-self
invariant_of-self c =
    let left = filter_same _ (λ (k : OrderKey). not (has_map_uid k.uid.0 c.args.uids.now)) _ (λ x b f' k. search rules) _ _ c.retain.ensures.filtered in
    let l = c.retain.ensures.bound in
    let k = c.retain.ensures.capacity in
    let i : vec_len c.self.inside.keys + c.self.inside.room ≤ vec_capacity c.self.inside.keys = c.self.invariant.1 in (
      subst NumbersRise (sym left) (AllPairs-filter (λ a b. a.number < b.number) (λ k. not (has_map_uid k.uid.0 c.args.uids.now)) c.self.inside.keys.items c.self.invariant.0),
      omega (arith, l, k, i),
    )

pub returns-clause-keys : goal.returns-clause-keys
returns-clause-keys c =
    let left = filter_same _ (λ (k : OrderKey). not (has_map_uid k.uid.0 c.args.uids.now)) _ (λ x b f' k. search rules) _ _ c.retain.ensures.filtered in
    left ∙ ap (λ (v : OrderValue). left_keys c.args.uids.now v.keys) c.self.view_is
