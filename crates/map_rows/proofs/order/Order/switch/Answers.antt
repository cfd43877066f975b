use Rattle.map_rows.proofs.Common.{◌+◌, ◌≤◌, ◌==◌, ◌∙◌, ℕ, Bool, ap, sym, subst, arith, rules, vec_len, vec_capacity, OrderKey, OrderValue, times}
use Rattle.std.proofs.lemmas.List.Sorted.{IsNonDecreasingBy-from_sort_by_key}
use Rattle.map_rows.proofs.SwitchLemmas.{times_permuted, rises_once, moved_keys}
use Rattle.map_rows.proofs.order.Order.switch.Goals as goal

pub invariant_of-self : goal.invariant_of-self
invariant_of-self c =
    let same = λ (p : OrderKey → Bool). times_permuted p _ _ c.sort_unstable_by_key.ensures.permutation ∙ times_permuted p _ _ c.bring_behind.ensures.keys ∙ ap (times p) c.switch_keys.ensures.keys in
    let apart = subst (λ (v : OrderValue). (n : ℕ) → times (λ k. k.number == n) (moved_keys c.args.target c.args.moved.now c.args.dropped.now v.keys) ≤ 1) (sym c.self.view_is) c.requires.apart in
    let a = c.switch_keys.ensures.space.0 in
    let b = c.switch_keys.ensures.space.1 in
    let d = c.bring_behind.ensures.space.0 in
    let e = c.bring_behind.ensures.space.1 in
    let l = c.sort_unstable_by_key.ensures.len in
    let k = c.sort_unstable_by_key.ensures.capacity in
    let i : vec_len c.self.inside.keys + c.self.inside.room ≤ vec_capacity c.self.inside.keys = c.self.invariant.1 in (
      rises_once _ (IsNonDecreasingBy-from_sort_by_key (λ (key : OrderKey). key.number) _ c.sort_unstable_by_key.ensures.sorted (λ a r q k. search rules)) (λ n. subst (λ (m : ℕ). m ≤ 1) (sym (same (λ k. k.number == n))) (apart n)),
      omega (arith, a, b, d, e, l, k, i),
    )

pub returns-clause-keys : goal.returns-clause-keys
returns-clause-keys c = λ p.
    times_permuted p _ _ c.sort_unstable_by_key.ensures.permutation ∙ times_permuted p _ _ c.bring_behind.ensures.keys ∙ ap (times p) c.switch_keys.ensures.keys
    ∙ ap (λ (v : OrderValue). times p (moved_keys c.args.target c.args.moved.now c.args.dropped.now v.keys)) c.self.view_is
